-- The outputs so far.
use Rattle.core_boosting.proofs.CoreCounts.{CountsTo}
use Rattle.core_boosting.proofs.counting.count_core.Given as goal

abbrev pub invariant-loop : goal.invariant-loop
invariant-loop g l = let R = g.R.Recorder in CountsTo (R.seen l.fn.rec) (R.seen l.rec) l.lits l.totalizer l.counted l.counter
