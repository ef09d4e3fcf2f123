use Rattle.std.proofs.Common.{◌-◌, length}
use Rattle.clause_prop.specs.Propagating.{Extends}
use Rattle.clause_prop.proofs.plain.close.Given as goal

abbrev pub invariant-loop-id : goal.invariant-loop-id
invariant-loop-id l = Extends l.store l.fn.trail l.trail

abbrev pub decreases-loop-id : goal.decreases-loop-id
decreases-loop-id l = l.trail.vars - length l.trail.steps
