-- The nodes so far are complete.
use Rattle.sum_outputs.specs.MadeOutputs.{ExtendsTo}
use Rattle.sum_outputs.proofs.OutputsLater.{IsUnderWay}
use Rattle.sum_outputs.proofs.below_root.extend_all.Given as goal

abbrev pub invariant-loop-at : goal.invariant-loop-at
invariant-loop-at g l = let R = g.R.Recorder in record {
  way : IsUnderWay (R.seen l.fn.rec) (R.seen l.rec);
  extends : ExtendsTo (R.seen l.fn.rec) (R.seen l.rec) l.nodes l.fn.made l.made l.at l.k;
}
