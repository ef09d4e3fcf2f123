use Rattle.std.proofs.Common.{◌≡◌, drop}
use Rattle.std.specs.List.{find}
use Rattle.proof_laws.specs.Refusal.{same_goal}
use Rattle.proof_rules.proofs.substitution.proof_of.Given as goal

abbrev pub invariant-loop-proof : goal.invariant-loop-proof
invariant-loop-proof l = find (λ q. same_goal l.name q.0) l.proofs ≡ find (λ q. same_goal l.name q.0) (drop l.proof-index l.proofs)
