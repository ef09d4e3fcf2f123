use Rattle.std.proofs.Common.{◌≤◌, length}
use Rattle.watch_prop.proofs.watch_lists.ends_within.Given as goal

abbrev pub invariant-loop-left : goal.invariant-loop-left
invariant-loop-left l = l.left ≤ length l.ends

abbrev pub decreases-loop-left : goal.decreases-loop-left
decreases-loop-left l = l.left
