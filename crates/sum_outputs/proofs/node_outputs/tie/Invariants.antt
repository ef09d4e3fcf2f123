-- The clauses so far are there.
use Rattle.std.proofs.Common.{◌-◌, ◌^◌}
use Rattle.sum_outputs.specs.Joining.{SinglesImply}
use Rattle.sum_outputs.proofs.ClauseCalls.{AreAddedTo}
use Rattle.sum_outputs.proofs.node_outputs.tie.Given as goal

abbrev pub invariant-loop-at : goal.invariant-loop-at
invariant-loop-at g l = let R = g.R.Recorder in
    AreAddedTo (R.seen l.fn.rec) (R.seen l.rec) (λ o. SinglesImply (R.seen l.rec) l.greater o (2 ^ 64 - 1)) l.smaller l.at
