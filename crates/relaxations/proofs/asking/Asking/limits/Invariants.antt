use Rattle.sum_outputs.proofs.OutputsLater.{IsUnderWay}
use Rattle.relaxations.proofs.asking.Asking.limits.Given as goal

abbrev pub invariant-loop-objective : goal.invariant-loop-objective
invariant-loop-objective g l = let R = g.R.Recorder in IsUnderWay (R.seen l.initial.rec) (R.seen l.rec)
