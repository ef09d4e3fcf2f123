use Rattle.std.proofs.Common.{inl, inr, arith}
use Rattle.proof_lines.proofs.GoalReads.{not_objective}
use Rattle.proof_lines.proofs.goals.objective_of.Goals as goal
use Rattle.proof_lines.proofs.goals.objective_of.Goals.{then-number-eq0-via-then-number-eq0, then-number-eq0-via-else-number-eq0+then-number-from}

pub returns-then-number-eq0 : goal.returns-then-number-eq0
returns-then-number-eq0 c = λ x valid is. not_objective c.args.digits.now c.in_ok-number.number x c.in_ok-number.ensures
    (elim c.then-number-eq0.branch [
      | then-number-eq0-via-then-number-eq0 w ↦ inl w.if-number-eq0.true
      | then-number-eq0-via-else-number-eq0+then-number-from w ↦ inr (omega arith)
    ])
    valid is
