use Rattle.std.proofs.lemmas.Result.{err_from_is_err_and}
use Rattle.proof_lines.proofs.WitnessedReads.{no_mark_after, substituted_wrong}
use Rattle.proof_lines.proofs.witnessed.read_witnessed.Goals as goal

pub returns-then-not-skip : goal.returns-then-not-skip
returns-then-not-skip c = no_mark_after c.args.spelling c.requires c.args.words.now c.read_constraint.new.words c.in_ok-goal.goal c.in_ok-goal.ensures c.if-not-skip.ensures.1

pub returns-in_err-witness : goal.returns-in_err-witness
returns-in_err-witness c =
    let p = err_from_is_err_and c.from_residual-in_err-witness.result c.from_residual-in_err-witness.ensures.1 in
    rw (p.1, p.2) (substituted_wrong c.args.spelling c.requires c.args.words.now c.read_constraint.new.words c.skip.new.self c.in_ok-goal.goal c.in_err-witness.field-0.0 c.in_ok-goal.ensures c.if-not-skip.ensures c.in_err-witness.ensures)
