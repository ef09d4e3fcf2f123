-- The clauses so far are there.
use Rattle.sum_outputs.specs.Joining.{PairsImply}
use Rattle.sum_outputs.proofs.ClauseCalls.{AreAddedTo}
use Rattle.sum_outputs.proofs.clauses.add_pairs.Given as goal

abbrev pub invariant-loop-at : goal.invariant-loop-at
invariant-loop-at g l = let R = g.R.Recorder in
    AreAddedTo (R.seen l.fn.rec) (R.seen l.rec) (λ o. PairsImply (R.seen l.rec) o l.seconds l.target l.below) l.firsts l.at
