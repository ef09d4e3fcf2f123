-- The fault of one goal, by what judges its parts.
use Rattle.std.proofs.Common.{◌≡◌, ◌⊎◌, inr, ℕ, ◌*◌, ◌<◌, ◌≤◌, Bool, not, Option, Some, None, List, sym, subst, ap, ⊎_elim, Result}
use Rattle.std.specs.Prelude.{MatchOption, ◌^◌}
use Rattle.std.proofs.lemmas.Bool.{le-ltb, cases_lt}
use Rattle.std.proofs.lemmas.List.Elements.{All-map}
use Rattle.scut_base.specs.Literal.{Literal}
use Rattle.pb_lin.specs.Constraint.{ConstraintValue, UpTo, negation, opposite, size}
use Rattle.proof_laws.specs.State.{StateValue}
use Rattle.proof_laws.specs.Substituted.{Requirement, IsGoalOf}
use Rattle.proof_laws.specs.Refusal.{FirstOf, fault_unless, size_fault, proof_of, IsHintsFault, IsTokensFault, IsProofFault, IsOpenGoalFault, IsGoalFault}
use Rattle.proof_laws.specs.declared.goal.Goal.{Goal}
use Rattle.proof_laws.specs.declared.goal.GoalProof.{GoalProof}
use Rattle.proof_laws.specs.declared.goal.GoalProof.TheVariants.{Rup as ByRup, Pol as ByPol}
use Rattle.proof_laws.specs.declared.why.Why.{Why}
use Rattle.proof_laws.specs.declared.why.Why.TheVariants.{Overflow, GoalMissing, GoalOpen}
use Rattle.proof_rules.specs.Verdict.{IsVerdict, IsClosedOrOpen, IsConflictFault}
use Rattle.proof_rules.specs.declared.fault.StepFault.{StepFault}
use Rattle.proof_rules.proofs.FirstFaults.{verdict_map}

-- a size that isn't too large
pub size_fine : (n : ℕ) → (2 ^ 100 < n → ⊥) → size_fault n ≡ None
size_fine n fine = ⊎_elim
    (λ (over : 2 ^ 100 < n). absurd (fine over))
    (λ (fits : n ≤ 2 ^ 100). ap (λ (b : Bool). fault_unless (not b) Overflow) (le-ltb (2 ^ 100) n fits))
    (cases_lt (2 ^ 100) n)

-- a negation has the variables of its constraint
pub negation_upto : (n : ℕ) (c : ConstraintValue) → UpTo n c → UpTo n (negation c)
negation_upto n c upto = All-map (λ (t : Literal × ℕ). t.0.var ≤ n) (λ (t : Literal × ℕ). (opposite t.0, t.1)) c.terms upto

module _ (s : StateValue) (c : ConstraintValue) (proofs : List (Goal × GoalProof)) where
  -- what a requirement of a size that is allowed has for a fault: that of the constraint that it is
  abbrev IsJudged : Requirement → Option Why → Type 0
  IsJudged q f = (g : ConstraintValue) × IsGoalOf g q × (((g.degree ≡ 0) × (f ≡ None)) ⊎ ((0 < g.degree) × IsOpenGoalFault s c proofs q.goal g f))

  -- the verdict on a goal is that on the requirement
  pub goal_verdict : (q : Requirement) (g : ConstraintValue) → (2 ^ 100 < 2 * q.size → ⊥) → IsGoalOf g q → (r : Result (Unit {0}) StepFault) → IsVerdict (IsClosedOrOpen s c proofs q.goal g) r → IsVerdict (IsGoalFault s c proofs q) r
  goal_verdict q g fine goal r verdict =
      verdict_map (IsClosedOrOpen s c proofs q.goal g) (IsGoalFault s c proofs q) (λ f is. subst (λ (o : Option Why). FirstOf o (IsJudged q) f) (sym (size_fine (2 * q.size) fine)) (g, goal, is)) r verdict

  -- what a proof of the goal has for a fault, where there is one
  abbrev IsFoundFault : Goal → ConstraintValue → Option Why → Option GoalProof → Type 0
  IsFoundFault name g f found = MatchOption found (f ≡ Some (GoalMissing name)) (λ proof. FirstOf (size_fault (size (negation g))) (IsProofFault s c name g proof) f)

  conflict_is : (name : Goal) (g negated denied : ConstraintValue) (proof : GoalProof) (f : Option Why) → negated ≡ negation g → denied ≡ negation c → IsConflictFault s negated denied name proof f → IsProofFault s c name g proof f
  conflict_is name g negated denied (ByRup hints) f own line is =
      subst (λ (d : ConstraintValue). IsHintsFault s d (Some (negation c)) hints (GoalOpen name) f) own (subst (λ (d : ConstraintValue). IsHintsFault s negated (Some d) hints (GoalOpen name) f) line is)
  conflict_is name g negated denied (ByPol tokens) f own line is =
      subst (λ (d : ConstraintValue). IsTokensFault s d (negation c) tokens (GoalOpen name) f) own (subst (λ (d : ConstraintValue). IsTokensFault s negated d tokens (GoalOpen name) f) line is)

  -- the verdict on a proof is that on its goal
  pub proved_verdict : (name : Goal) (g negated denied : ConstraintValue) (proof : GoalProof) → 0 < g.degree → proof_of name proofs ≡ Some proof → negated ≡ negation g → denied ≡ negation c →
      None ≡ size_fault (size (negation g)) → (r : Result (Unit {0}) StepFault) → IsVerdict (IsConflictFault s negated denied name proof) r → IsVerdict (IsClosedOrOpen s c proofs name g) r
  proved_verdict name g negated denied proof opened found own line fine r verdict =
      verdict_map (IsConflictFault s negated denied name proof) (IsClosedOrOpen s c proofs name g) (λ f is.
      inr (opened, subst (IsFoundFault name g f) (sym found) (subst (λ (o : Option Why). FirstOf o (IsProofFault s c name g proof) f) fine (conflict_is name g negated denied proof f own line is)))) r verdict
