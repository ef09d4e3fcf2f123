use Rattle.sum_outputs.proofs.OutputsLater.{IsUnderWay}
use Rattle.relaxations.proofs.cliques.add_cliques.Given as goal

abbrev pub invariant-loop-line : goal.invariant-loop-line
invariant-loop-line g l = let R = g.R.Recorder in IsUnderWay (R.seen l.initial.rec) (R.seen l.rec)
