use Rattle.std.proofs.Common.{◌≡◌, nat_lt, drop}
use Rattle.std.specs.List.{find, flat_map}
use Rattle.proof_laws.specs.Refusal.{token_variables}
use Rattle.proof_rules.proofs.ranges.tokens_above.Given as goal

abbrev pub invariant-loop-token : goal.invariant-loop-token
invariant-loop-token l = find (λ v. nat_lt l.n v) (flat_map token_variables l.tokens) ≡ find (λ v. nat_lt l.n v) (flat_map token_variables (drop l.token-index l.tokens))
