use Rattle.std.proofs.lemmas.Result.{err_from_is_err_and}
use Rattle.proof_lines.proofs.Bodies.{dom_wrong}
use Rattle.proof_lines.proofs.body.read_dom.Goals as goal

pub returns-in_err-goal : goal.returns-in_err-goal
returns-in_err-goal c =
    let p = err_from_is_err_and c.from_residual.result c.from_residual.ensures.1 in
    rw (p.1, p.2) (dom_wrong c.args.spelling c.requires _ c.args.words.now c.in_err-goal.ensures)
