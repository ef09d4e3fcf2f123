use Rattle.std.proofs.Common.{Ok, arith}
use Rattle.std.proofs.lemmas.Result.{err_from_is_err_and}
use Rattle.proof_rules.proofs.Verdicts.{contradicts, contradicts_not, tokens_refused}
use Rattle.proof_rules.proofs.derivation.judge_tokens.Goals as goal

pub returns-in_err-made : goal.returns-in_err-made
returns-in_err-made c =
    let p = err_from_is_err_and c.from_residual.result c.from_residual.ensures.1 in
    rw (p.1, p.2) (tokens_refused (Unit {0}) c.args.reached.now c.args.negated.now c.args.denied.now c.args.tokens.now c.args.otherwise c.in_err-made.field-0.0 c.in_err-made.ensures)

pub returns-then-total-degree : goal.returns-then-total-degree
returns-then-total-degree c = (Ok c.in_ok-made.made, c.in_ok-made.ensures, contradicts c.in_ok-made.made c.args.otherwise (omega arith))

pub returns : goal.returns
returns c = (Ok c.in_ok-made.made, c.in_ok-made.ensures, contradicts_not c.in_ok-made.made c.args.otherwise (omega arith))
