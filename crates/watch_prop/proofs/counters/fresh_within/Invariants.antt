use Rattle.std.proofs.Common.{◌≤◌}
use Rattle.watch_prop.proofs.counters.fresh_within.Given as goal

abbrev pub invariant-loop-count : goal.invariant-loop-count
invariant-loop-count l = l.count ≤ l.done

abbrev pub decreases-loop-count : goal.decreases-loop-count
decreases-loop-count l = l.count
