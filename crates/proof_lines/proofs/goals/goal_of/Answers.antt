use Rattle.std.proofs.Common.{◌≡◌, get_or, refl, arith}
use Rattle.proof_lines.proofs.GoalReads.{no_objective}
use Rattle.proof_lines.proofs.goals.goal_of.Goals as goal

pub returns-in_err-number : goal.returns-in_err-number
returns-in_err-number c =
    let first : get_or c.args.word.now 0 0 ≡ 111 = omega arith in
    rw c.from_residual.ensures (no_objective c.args.spelling c.requires c.args.word.now _ refl first c.in_err-number.ensures)
