use Rattle.std.proofs.lemmas.Result.{err_from_is_err_and}
use Rattle.proof_lines.proofs.WitnessedReads.{witness_wrong, proofs_wrong}
use Rattle.proof_lines.proofs.witnessed.read_substituted.Goals as goal

pub returns-in_err-witness : goal.returns-in_err-witness
returns-in_err-witness c =
    let p = err_from_is_err_and c.from_residual.result c.from_residual.ensures.1 in
    rw (p.1, p.2) (witness_wrong c.args.spelling c.requires c.args.words.now c.read_witness.new.words c.in_err-witness.field-0.0 c.in_err-witness.ensures)

pub returns-in_err-proofs : goal.returns-in_err-proofs
returns-in_err-proofs c =
    let p = err_from_is_err_and c.from_residual-in_err-proofs.result c.from_residual-in_err-proofs.ensures.1 in
    rw (p.1, p.2) (proofs_wrong c.args.spelling c.requires c.args.words.now c.read_witness.new.words c.in_ok-witness.witness c.in_err-proofs.field-0.0 c.in_ok-witness.ensures c.in_err-proofs.ensures)
