-- Goals that are closed, one after the other.
use Rattle.std.proofs.Common.{◌≡◌, inl, inr, ◌*◌, ◌<◌, ◌≤◌, Option, None, Some, List, [], ◌∷◌, refl, subst, arith}
use Rattle.std.specs.Prelude.{◌^◌, MatchOption}
use Rattle.std.specs.List.{All}
use Rattle.std.proofs.lemmas.List.Elements.{All-head, All-tail}
use Rattle.pb_lin.specs.Constraint.{ConstraintValue, negation, size}
use Rattle.proof_laws.specs.State.{StateValue}
use Rattle.proof_laws.specs.Substituted.{Requirement, IsGoalOf}
use Rattle.proof_laws.specs.Refusal.{FirstOf, size_fault, proof_of, IsProofFault, IsGoalFault, IsFirstGoalFault}
use Rattle.proof_laws.specs.declared.goal.Goal.{Goal}
use Rattle.proof_laws.specs.declared.goal.GoalProof.{GoalProof}
use Rattle.proof_laws.specs.declared.why.Why.{Why}
use Rattle.proof_laws.specs.declared.why.Why.TheVariants.{GoalMissing}
use Rattle.proof_laws.proofs.Conditions.{no_first, no_size_fault}

module _ (s : StateValue) (c : ConstraintValue) (proofs : List (Goal × GoalProof)) where
  -- no goal has a fault
  pub no_faults : (qs : List Requirement) → All (λ q. IsGoalFault s c proofs q None) qs → IsFirstGoalFault s c proofs qs None
  no_faults [] all = refl
  no_faults (q ∷ qs) all =
      (None, All-head (λ r. IsGoalFault s c proofs r None) q qs all, no_faults qs (All-tail (λ r. IsGoalFault s c proofs r None) q qs all))

  pub closed : (q : Requirement) (g : ConstraintValue) → q.size ≤ 2 ^ 99 → IsGoalOf g q → g.degree ≡ 0 → IsGoalFault s c proofs q None
  closed q g small is none = no_first (size_fault (2 * q.size)) _ None (no_size_fault (2 * q.size) (omega arith)) (g, is, inl (none, refl))

  has_proof : (name : Goal) (g : ConstraintValue) (found : Option GoalProof) (proof : GoalProof) → found ≡ Some proof → size (negation g) ≤ 2 ^ 100 → IsProofFault s c name g proof None
      → MatchOption found (◌≡◌ {A = Option Why} None (Some (GoalMissing name))) (λ r. FirstOf (size_fault (size (negation g))) (IsProofFault s c name g r) None)
  has_proof name g None proof e small is = cc
  has_proof name g (Some other) proof e small is =
      let same : proof ≡ other = cc in
      no_first (size_fault (size (negation g))) _ None (no_size_fault (size (negation g)) small) (subst (λ (r : GoalProof). IsProofFault s c name g r None) same is)

  pub proved : (q : Requirement) (g : ConstraintValue) (proof : GoalProof) → q.size ≤ 2 ^ 99 → IsGoalOf g q → 0 < g.degree → proof_of q.goal proofs ≡ Some proof → size (negation g) ≤ 2 ^ 100
      → IsProofFault s c q.goal g proof None → IsGoalFault s c proofs q None
  proved q g proof small is some found fits fine =
      no_first (size_fault (2 * q.size)) _ None (no_size_fault (2 * q.size) (omega arith)) (g, is, inr (some, has_proof q.goal g (proof_of q.goal proofs) proof found fits fine))
