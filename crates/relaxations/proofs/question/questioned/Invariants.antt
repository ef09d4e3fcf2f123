use Rattle.std.proofs.Common.{◌≡◌, length}
use Rattle.sum_outputs.proofs.OutputsLater.{IsUnderWay}
use Rattle.search_base.specs.CostBounds.{FitBounds}
use Rattle.relaxations.specs.Questions.{AreExcesses, Denies}
use Rattle.relaxations.proofs.question.questioned.Given as goal

abbrev pub invariant-loop-objective : goal.invariant-loop-objective
invariant-loop-objective g l =
    let R = g.R.Recorder in
    record {
      way : IsUnderWay (R.seen l.initial.rec) (R.seen l.rec);
      fits : FitBounds (R.seen l.rec) l.bounds;
      count : length l.excesses ≡ l.objective;
      excesses : AreExcesses (R.seen l.rec).problem (R.seen l.rec).lines l.limits l.excesses;
      denies : Denies l.excesses l.lits;
    }
