use Rattle.sum_outputs.proofs.OutputsLater.{IsUnderWay}
use Rattle.relaxations.proofs.row_totalizers.add_row_totalizers.Given as goal

abbrev pub invariant-loop-at : goal.invariant-loop-at
invariant-loop-at g l = let R = g.R.Recorder in IsUnderWay (R.seen l.initial.rec) (R.seen l.rec)
