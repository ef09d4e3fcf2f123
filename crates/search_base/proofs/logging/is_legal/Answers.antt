use Rattle.std.proofs.Common.{rules, subst}
use Rattle.pb_lin.specs.Problem.{ProblemValue}
use Rattle.proof_laws.specs.Legal.{IsRefused}
use Rattle.search_base.proofs.JudgedLines.{not_legal}
use Rattle.search_base.proofs.logging.is_legal.Goals as goal

pub returns-in-Err-Refused : goal.returns-in-Err-Refused
returns-in-Err-Refused c =
    let why = c.in-Err-Refused.field-0-0 in
    let refused = rw c.in-Err-Refused.field-0-is at c.in-Err-Refused.ensures.refused in (
      λ no. search rules,
      λ legal. absurd (not_legal c.args.problem.now c.args.state.now c.args.line.now why
          (subst (λ (p : ProblemValue). IsRefused p c.args.state.now c.args.line.now why) c.in_ok-judge.ensures refused) legal),
    )
