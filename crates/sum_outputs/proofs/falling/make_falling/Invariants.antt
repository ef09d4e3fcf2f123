-- Some sums are left, and the others are made.
use Rattle.std.proofs.Common.{length}
use Rattle.sum_outputs.specs.Adding.{DefinesMore}
use Rattle.sum_outputs.proofs.OutputsLater.{IsUnderWay}
use Rattle.sum_outputs.proofs.FallingLines.{IsHalfWay}
use Rattle.sum_outputs.proofs.falling.make_falling.Given as goal

abbrev pub invariant-loop-run : goal.invariant-loop-run
invariant-loop-run g l = let R = g.R.Recorder in record {
  way : IsUnderWay (R.seen l.fn.rec) (R.seen l.rec);
  half : IsHalfWay (R.seen l.fn.rec) (R.seen l.rec) l.node l.last l.k l.sums l.falling;
  defined : DefinesMore (R.seen l.fn.rec) (R.seen l.rec) (length l.falling);
}

abbrev pub decreases-loop-run : goal.decreases-loop-run
decreases-loop-run g l = length l.sums
