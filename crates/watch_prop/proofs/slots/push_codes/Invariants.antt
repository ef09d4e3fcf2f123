use Rattle.std.proofs.Common.{◌≡◌, ◌++◌, ◌<◌, ℕ, map, take, get_or}
use Rattle.scut_base.specs.LiteralCode.{code_of}
use Rattle.watch_prop.specs.Codes.{IsCode}
use Rattle.watch_prop.specs.Watching.{no_literal}
use Rattle.watch_prop.proofs.slots.push_codes.Given as goal

abbrev pub invariant-loop-lit : goal.invariant-loop-lit
invariant-loop-lit l = record {
  items : l.words.items ≡ l.fn.words.items ++ map code_of (take l.lit-index l.lits);
  codes : (k : ℕ) → k < l.lit-index → IsCode (code_of (get_or l.lits k no_literal));
}
