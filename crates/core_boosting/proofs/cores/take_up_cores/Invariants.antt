-- The cores that were taken up so far; each makes the terms weigh less.
use Rattle.pb_lin.specs.Constraint.{total}
use Rattle.core_boosting.proofs.TakenCores.{TakesUp}
use Rattle.core_boosting.proofs.cores.take_up_cores.Given as goal

abbrev pub invariant-loop-id : goal.invariant-loop-id
invariant-loop-id g l = let R = g.O.Recorder in TakesUp (R.seen l.fn.oracle) (R.seen l.oracle) l.fn.reform l.reform

abbrev pub decreases-loop-id : goal.decreases-loop-id
decreases-loop-id g l = total l.reform.terms
