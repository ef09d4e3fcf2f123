use Rattle.std.proofs.lemmas.Bool.{false≢true}
use Rattle.std.proofs.lemmas.Result.{err_from_is_err_and}
use Rattle.proof_lines.proofs.Bodies.{pol_wrong, pol_unended}
use Rattle.proof_lines.proofs.body.read_pol.Goals as goal

pub returns-in_err-tokens : goal.returns-in_err-tokens
returns-in_err-tokens c =
    let p = err_from_is_err_and c.from_residual.result c.from_residual.ensures.1 in
    rw (p.1, p.2) (pol_wrong c.args.spelling c.requires _ c.args.words.now c.read_tokens.new.words c.in_err-tokens.ensures)

pub returns-then-not-is_at_end : goal.returns-then-not-is_at_end
returns-then-not-is_at_end c = pol_unended c.args.spelling c.requires c.args.words.now c.read_tokens.new.words c.in_ok-tokens.tokens c.in_ok-tokens.ensures (λ none. absurd (false≢true (c.if-not-is_at_end.ensures.1 none)))
