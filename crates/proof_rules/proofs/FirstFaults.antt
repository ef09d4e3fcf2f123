-- The first fault of requirements that are judged one after another.
use Rattle.std.proofs.Common.{Option, Some, None, List, [], ◌∷◌, ◌++◌, refl, subst, Ok, Err, Result}
use Rattle.pb_lin.specs.Constraint.{ConstraintValue}
use Rattle.proof_laws.specs.State.{StateValue}
use Rattle.proof_laws.specs.Substituted.{Requirement}
use Rattle.proof_laws.specs.Refusal.{FirstOf, IsGoalFault, IsFirstGoalFault}
use Rattle.proof_laws.specs.declared.goal.Goal.{Goal}
use Rattle.proof_laws.specs.declared.goal.GoalProof.{GoalProof}
use Rattle.proof_laws.specs.declared.why.Why.{Why}
use Rattle.proof_laws.proofs.Derivations.{first_of_none}
use Rattle.proof_rules.specs.Verdict.{IsVerdict}
use Rattle.proof_rules.specs.declared.fault.StepFault.{StepFault}
use Rattle.proof_rules.specs.declared.fault.StepFault.TheVariants.{Refused, NoMemory}

-- what an answer says of one judgement it says of each that follows from it
pub verdict_map : {T : Type 0} (J K : Option Why → Type 0) → ((f : Option Why) → J f → K f) → (r : Result T StepFault) → IsVerdict J r → IsVerdict K r
verdict_map J K onward (Ok x) is = onward None is
verdict_map J K onward (Err (Refused why)) is = onward (Some why) is
verdict_map J K onward (Err NoMemory) is = tt

module _ (s : StateValue) (c : ConstraintValue) (proofs : List (Goal × GoalProof)) where
  stays_first : (first : Option Why) (xs ys : List Requirement) (why : Why) → (IsFirstGoalFault s c proofs xs (Some why) → IsFirstGoalFault s c proofs (xs ++ ys) (Some why)) →
      FirstOf first (IsFirstGoalFault s c proofs xs) (Some why) → FirstOf first (IsFirstGoalFault s c proofs (xs ++ ys)) (Some why)
  stays_first None xs ys why rest is = rest is
  stays_first (Some w) xs ys why rest is = is

  -- the first fault of some requirements is that of these and more
  fault_stays : (xs ys : List Requirement) (why : Why) → IsFirstGoalFault s c proofs xs (Some why) → IsFirstGoalFault s c proofs (xs ++ ys) (Some why)
  fault_stays [] ys why is = cc
  fault_stays (q ∷ xs) ys why is = (is.0, is.1, stays_first is.0 xs ys why (fault_stays xs ys why) is.2)

  -- where some have none, the rest decides
  fault_later : (xs ys : List Requirement) (f : Option Why) → IsFirstGoalFault s c proofs xs None → IsFirstGoalFault s c proofs ys f → IsFirstGoalFault s c proofs (xs ++ ys) f
  fault_later [] ys f none later = later
  fault_later (q ∷ xs) ys f none later =
      let both = first_of_none none.0 (IsFirstGoalFault s c proofs xs) none.2 in
      (None, subst (λ (o : Option Why). IsGoalFault s c proofs q o) both.0 none.1, fault_later xs ys f both.1 later)

  -- what the rest has for a fault, all have: those before it have none
  pub record RestDecides (rest all : List Requirement) : Type 0 where
    pub onward : (f : Option Why) → IsFirstGoalFault s c proofs rest f → IsFirstGoalFault s c proofs all f

  pub decides_all : (all : List Requirement) → RestDecides all all
  decides_all all = record { onward = λ f is. is }

  pub decides_more : (xs rest all : List Requirement) → RestDecides (xs ++ rest) all → IsFirstGoalFault s c proofs xs None → RestDecides rest all
  decides_more xs rest all is none = record { onward = λ f later. is.onward f (fault_later xs rest f none later) }

  pub decided_end : (all : List Requirement) → RestDecides [] all → IsFirstGoalFault s c proofs all None
  decided_end all is = is.onward None refl

  -- the verdict on the rest is that on all
  pub decided : (rest all : List Requirement) → RestDecides rest all → (r : Result (Unit {0}) StepFault) → IsVerdict (IsFirstGoalFault s c proofs rest) r → IsVerdict (IsFirstGoalFault s c proofs all) r
  decided rest all is r verdict = verdict_map (IsFirstGoalFault s c proofs rest) (IsFirstGoalFault s c proofs all) is.onward r verdict

  -- a fault of the first of the rest is that of all
  pub decided_fault : (xs rest all : List Requirement) → RestDecides (xs ++ rest) all → (e : StepFault) →
      IsVerdict {T = Unit {0}} (IsFirstGoalFault s c proofs xs) (Err e) → IsVerdict {T = Unit {0}} (IsFirstGoalFault s c proofs all) (Err e)
  decided_fault xs rest all is (Refused why) fault = is.onward (Some why) (fault_stays xs rest why fault)
  decided_fault xs rest all is NoMemory fault = tt

  -- one requirement
  pub one_goal : (q : Requirement) (f : Option Why) → IsGoalFault s c proofs q f → IsFirstGoalFault s c proofs (q ∷ []) f
  one_goal q None is = (None, is, refl)
  one_goal q (Some why) is = (Some why, is, refl)

  -- the verdict on one requirement
  pub one_verdict : (q : Requirement) (r : Result (Unit {0}) StepFault) → IsVerdict (IsGoalFault s c proofs q) r → IsVerdict (IsFirstGoalFault s c proofs (q ∷ [])) r
  one_verdict q r verdict = verdict_map (IsGoalFault s c proofs q) (IsFirstGoalFault s c proofs (q ∷ [])) (one_goal q) r verdict
