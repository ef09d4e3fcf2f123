use Rattle.std.proofs.Common.{◌∙◌, sym, subst}
use Rattle.proof_text.specs.Recorders.{MemoryLog}
use Rattle.oracle.specs.Solving.{AreEarned}
use Rattle.search_tests.proofs.Beginnings.{nothing_earned}
use Rattle.search_tests.proofs.solver.answers_so.Goals as goal

pub solve-answer-requires-clause-earned : goal.solve-answer-requires-clause-earned
solve-answer-requires-clause-earned g c =
    let begun = c.in-Ok.ensures.recorder ∙ c.in_ok-recorder.ensures in
    subst (λ (r : MemoryLog). AreEarned r.problem r.lines) (sym begun) (nothing_earned c.args.problem.now)
