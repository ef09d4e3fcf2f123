use Rattle.std.proofs.Common.{◌-◌, length}
use Rattle.clause_prop.specs.Propagating.{Extends}
use Rattle.watch_prop.specs.Joined.{AreInStep}
use Rattle.watch_prop.proofs.watch_prop.WatchPropPropagator.propagate.Given as goal

abbrev pub invariant-loop-id : goal.invariant-loop-id
invariant-loop-id l = AreInStep l.self l.store l.trail × Extends l.store l.fn.trail l.trail

abbrev pub decreases-loop-id : goal.decreases-loop-id
decreases-loop-id l = l.trail.vars - length l.trail.steps
