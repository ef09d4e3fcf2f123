use Rattle.search_base.specs.Good.{GoesOn}
use Rattle.relaxations.specs.Telling.{StaysGood}
use Rattle.relaxations.proofs.linear_boxes.LinearBoxes.improve_each.Given as goal

abbrev pub invariant-loop-objective : goal.invariant-loop-objective
invariant-loop-objective g l =
    let R = g.O.Recorder in
    record {
      on : GoesOn (R.seen l.initial.oracle) (R.seen l.oracle);
      good : StaysGood (R.seen l.initial.oracle) (R.seen l.oracle) l.initial.bounds l.bounds;
    }
