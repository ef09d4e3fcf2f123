use Rattle.std.proofs.Common.{◌≡◌}
use Rattle.sum_outputs.proofs.OutputsLater.{IsUnderWay}
use Rattle.search_base.specs.CostBounds.{FitBounds, reforms_of}
use Rattle.relaxations.proofs.ending.tie_bounds.Given as goal

abbrev pub invariant-loop-objective : goal.invariant-loop-objective
invariant-loop-objective g l =
    let R = g.R.Recorder in
    record {
      way : IsUnderWay (R.seen l.initial.rec) (R.seen l.rec);
      fits : FitBounds (R.seen l.rec) l.bounds;
      reforms : reforms_of l.bounds ≡ reforms_of l.initial.bounds;
    }
