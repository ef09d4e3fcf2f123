use Rattle.std.proofs.Common.{◌≡◌, nat_lt, drop}
use Rattle.std.specs.List.{find, flat_map}
use Rattle.proof_laws.specs.Refusal.{proof_variables}
use Rattle.proof_rules.proofs.ranges.proofs_above.Given as goal

abbrev pub invariant-loop-proof : goal.invariant-loop-proof
invariant-loop-proof l = find (λ v. nat_lt l.n v) (flat_map (λ q. proof_variables q.1) l.proofs) ≡ find (λ v. nat_lt l.n v) (flat_map (λ q. proof_variables q.1) (drop l.proof-index l.proofs))
