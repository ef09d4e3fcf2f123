use Rattle.std.proofs.Common.{◌≡◌, length}
use Rattle.search_base.proofs.NamedAnswers.{AreNamedSoFar}
use Rattle.search_base.proofs.naming.named_answers.Given as goal

abbrev pub invariant-loop-objective : goal.invariant-loop-objective
invariant-loop-objective l = record {
  count : length l.named ≡ l.objective;
  each : AreNamedSoFar l.problem l.costs l.answers l.named;
}
