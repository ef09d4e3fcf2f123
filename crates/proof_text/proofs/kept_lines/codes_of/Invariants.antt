use Rattle.std.proofs.Common.{◌≡◌, take}
use Rattle.std.specs.Prelude.{map}
use Rattle.proof_text.proofs.kept_lines.codes_of.Given as goal

abbrev pub invariant-loop-item : goal.invariant-loop-item
invariant-loop-item g l = map g.T.Short.meaning l.codes ≡ take l.item-index l.items
