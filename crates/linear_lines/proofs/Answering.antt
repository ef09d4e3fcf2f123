-- What is answered, of the state that was reached.
use Rattle.std.proofs.Common.{◌≡◌, Result, Ok, Option, Some, None, List, IfOk, MatchOption, subst}
use Rattle.std.specs.Prelude.{IsErrAnd}
use Rattle.scut_base.specs.declared.memory.NoMemory.{NoMemory as WantOfMemory}
use Rattle.pb_lin.specs.Constraint.{ConstraintValue}
use Rattle.cutting_planes.specs.declared.token.PolToken.{PolToken}
use Rattle.proof_laws.specs.State.{StateValue}
use Rattle.proof_laws.proofs.Replays.{replay_once}
use Rattle.proof_rules.specs.Recording.{Snapshot}
use Rattle.proof_rules.specs.declared.recorder.RecordFault.{RecordFault}
use Rattle.proof_rules.specs.declared.recorder.RecordFault.TheVariants.{NoMemory}
use Rattle.sum_outputs.specs.Adding.{Continues, IsReached, IsRecorded}
use Rattle.sum_outputs.proofs.LaterStates.{memory_err}

pub memory_handed : {T : Type 0} (a b : Snapshot) (f : RecordFault) (r : Result T RecordFault) → Continues a b
    → f ≡ NoMemory → IsErrAnd r (λ g. g ≡ f) → IsRecorded a b r
memory_handed {T} a b f r on none is =
    memory_err a b r on (subst (λ (h : RecordFault). IsErrAnd r (λ g. g ≡ h)) none is)

-- What is made of the one state that was reached is made of whatever state was.
module _ (NoneOf : StateValue → List PolToken → Type 0) (Makes : StateValue → List PolToken → ConstraintValue → Type 0)
    (a : Snapshot) (s : StateValue) (reached : IsReached a s) (given tokens : List PolToken) (same : given ≡ tokens)
    (r : Result (Option ConstraintValue) WantOfMemory)
    (is : IfOk r (λ made. MatchOption made (NoneOf s given) (Makes s given))) where
  -- a constraint
  pub made_now : (c : ConstraintValue) → r ≡ Ok (Some c) → (t : StateValue) → IsReached a t → Makes t tokens c
  made_now c ok t again =
      subst (λ (u : StateValue). Makes u tokens c) (replay_once a.problem a.lines s t reached again)
      (subst (λ (ts : List PolToken). Makes s ts c) same
      (subst (λ (q : Result (Option ConstraintValue) WantOfMemory). IfOk q (λ made. MatchOption made (NoneOf s given) (Makes s given))) ok is))

  -- or none
  pub none_now : r ≡ Ok None → (t : StateValue) → IsReached a t → NoneOf t tokens
  none_now ok t again =
      subst (λ (u : StateValue). NoneOf u tokens) (replay_once a.problem a.lines s t reached again)
      (subst (λ (ts : List PolToken). NoneOf s ts) same
      (subst (λ (q : Result (Option ConstraintValue) WantOfMemory). IfOk q (λ made. MatchOption made (NoneOf s given) (Makes s given))) ok is))
