use Rattle.std.proofs.Common.{nat_lt, sym, ◌∙◌}
use Rattle.proof_laws.specs.Refusal.{token_variables}
use Rattle.proof_rules.proofs.Searches.{found_here, not_found_here, found_nowhere}
use Rattle.proof_rules.proofs.ranges.tokens_above.Goals as goal

pub loop-token-preserved : goal.loop-token-preserved
loop-token-preserved c =
    c.loop-token.invariant
    ∙ not_found_here (λ v. nat_lt c.args.n v) token_variables c.args.tokens.now c.loop-token.token-index c.token-item.result c.token-item.result c.loop-token-test.true c.token-item.is (sym c.token_above.ensures ∙ c.in_default.is)

pub returns-in-Some : goal.returns-in-Some
returns-in-Some c =
    sym
    (c.loop-token.invariant
    ∙ found_here (λ v. nat_lt c.args.n v) token_variables c.args.tokens.now c.loop-token.token-index c.token-item.result c.token-item.result c.in-Some.var c.loop-token-test.true c.token-item.is (sym c.token_above.ensures ∙ c.in-Some.is))

pub returns : goal.returns
returns c = sym (c.loop-token.invariant ∙ found_nowhere (λ v. nat_lt c.args.n v) token_variables c.args.tokens.now c.loop-token.token-index c.loop-token-test.false)
