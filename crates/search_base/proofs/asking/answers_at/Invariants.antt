use Rattle.std.proofs.Common.{◌≡◌, take}
use Rattle.search_base.specs.CostBounds.{FitBounds, reforms_of}
use Rattle.search_base.specs.Cutting.{AreAnswers, AreAsked}
use Rattle.sum_outputs.proofs.OutputsLater.{IsUnderWay}
use Rattle.search_base.proofs.asking.answers_at.Given as goal

abbrev pub invariant-loop-objective : goal.invariant-loop-objective
invariant-loop-objective g l =
    let R = g.R.Recorder in
    let b = R.seen l.rec in
    record {
      on : IsUnderWay (R.seen l.initial.rec) b;
      fits : FitBounds b l.bounds;
      reforms : reforms_of l.bounds ≡ reforms_of l.initial.bounds;
      asked : AreAsked (reforms_of l.initial.bounds) (take l.objective l.costs) l.answers;
      done : AreAnswers (R.seen l.rec).problem (R.seen l.rec).lines (take l.objective l.costs) l.answers;
    }
