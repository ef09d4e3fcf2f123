use Rattle.search_base.specs.Good.{GoesOn}
use Rattle.relaxations.specs.Telling.{StaysGood}
use Rattle.relaxations.proofs.linear_boxes.LinearBoxes.below_in_boxes.Given as goal

abbrev pub invariant-loop-place : goal.invariant-loop-place
invariant-loop-place g l =
    let R = g.O.Recorder in
    record {
      on : GoesOn (R.seen l.initial.oracle) (R.seen l.oracle);
      good : StaysGood (R.seen l.initial.oracle) (R.seen l.oracle) l.initial.bounds l.bounds;
    }
