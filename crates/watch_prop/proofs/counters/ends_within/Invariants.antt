use Rattle.std.proofs.Common.{◌≤◌, length}
use Rattle.watch_prop.proofs.counters.ends_within.Given as goal

abbrev pub invariant-loop-count : goal.invariant-loop-count
invariant-loop-count l = l.count ≤ length l.ends

abbrev pub decreases-loop-count : goal.decreases-loop-count
decreases-loop-count l = l.count
