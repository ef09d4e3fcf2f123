use Rattle.std.proofs.Common.{◌≡◌, ◌<◌, ◌≤◌, ℕ, [], get_or, length}
use Rattle.scut_base.specs.LiteralCode.{code_of}
use Rattle.watch_prop.specs.Watching.{no_literal}
use Rattle.watch_prop.proofs.watch_lists.cover.Given as goal

abbrev pub invariant-loop-place : goal.invariant-loop-place
invariant-loop-place l = record {
  same : (c : ℕ) → get_or l.lists.items c [] ≡ get_or l.fn.lists.items c [];
  longer : length l.fn.lists.items ≤ length l.lists.items;
  covered : (k : ℕ) → k < l.place → code_of (get_or l.clause k no_literal) < length l.lists.items;
}
