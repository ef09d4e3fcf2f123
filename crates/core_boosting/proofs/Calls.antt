-- What calls of an oracle and of a recorder leave, one after the other.
use Rattle.std.proofs.Common.{◌≡◌, ℕ, false, Option, Result, Ok, Err, ap, refl, sym, subst, ◌∙◌, arith}
use Rattle.std.specs.Prelude.{IfErr, IsErrAnd}
use Rattle.std.proofs.lemmas.Result.{err_from_is_err_and}
use Rattle.scut_base.specs.Faults.{Rose}
use Rattle.pb_lin.specs.Problem.{ProblemValue}
use Rattle.proof_laws.specs.State.{StateValue}
use Rattle.proof_laws.proofs.Replays.{replay_once}
use Rattle.proof_rules.specs.Recording.{KeepsRecorder, Snapshot}
use Rattle.proof_rules.specs.declared.recorder.RecordFault.{RecordFault}
use Rattle.proof_rules.specs.declared.recorder.RecordFault.TheVariants.{Failed as RecordingFailed, Full as RecordFull, NoMemory as RecordNoMemory}
use Rattle.oracle.specs.Solving.{AddsSearchLines, AreEarned, HasFault, IsOrderly, IsSpent, IsWithin, Reaches, fault_of_recording}
use Rattle.oracle.specs.declared.fault.OracleFault.{OracleFault}
use Rattle.oracle.specs.declared.fault.OracleFault.TheVariants.{Spent, Failed, Full, NoMemory}
use Rattle.sum_outputs.specs.Adding.{Continues, IsFaultAt, IsReady}
use Rattle.search_base.specs.Good.{GoesOn}
use Rattle.search_base.specs.Logged.{LogsNone}
use Rattle.search_base.specs.Turns.{IsInOrder, IsSearchFault}
use Rattle.search_base.proofs.LoggedVectors.{search_logs_none, totalizer_logs_none}
use Rattle.search_base.proofs.TurnLines.{search_lines, totalizer_lines}
use Rattle.search_base.proofs.TurnStates.{ready_after}
use Rattle.search_base.proofs.Turning.{goes_again, goes_twice, none_twice}
use Rattle.core_boosting.specs.Boosting.{BoostsOn, MayBoost}

pub not_ended : (a : Snapshot) → IsReady a → Reaches a.problem a.lines (λ s. s.ended ≡ false)
not_ended a ready s reached =
    subst (λ (t : StateValue). t.ended ≡ false) (replay_once a.problem a.lines ready.state s ready.reached reached) ready.unended

-- ---- a call's result

pub boosts_ok : {T : Type 0} (a b : Snapshot) (x : T) → MayBoost b → LogsNone a.problem a.lines b.lines → GoesOn a b → BoostsOn {T = T} a b (Ok x)
boosts_ok a b x may none on = record { may = λ order. may; none = none; fault = tt; goes_on = on }

pub boosts_same : {T : Type 0} (a : Snapshot) (x : T) → MayBoost a → BoostsOn {T = T} a a (Ok x)
boosts_same a x may = boosts_ok a a x may refl (goes_again a)

order_same : (T U : Type 0) (f : OracleFault) → IsInOrder {T = T} (Err f) → IsInOrder {T = U} (Err f)
order_same T U (Spent learned) order = tt
order_same T U Failed order = absurd order
order_same T U Full order = absurd order
order_same T U NoMemory order = absurd order

-- a fault that `?` hands on
pub boosts_handed : {T U : Type 0} (a b : Snapshot) (r : Result T OracleFault) (f : OracleFault) → IsErrAnd r (λ g. g ≡ f) →
    BoostsOn {T = U} a b (Err f) → BoostsOn a b r
boosts_handed {T} {U} a b r f is call =
    let p = err_from_is_err_and r is in
    subst (λ (q : Result T OracleFault). BoostsOn a b q) (sym (p.1 ∙ ap (λ (g : OracleFault). Err g) p.2))
    (record { may = λ order. call.may (order_same T U f order); none = call.none; fault = call.fault; goes_on = call.goes_on })

-- a want of memory
pub boosts_memory : {T : Type 0} (a b : Snapshot) (r : Result T OracleFault) → IsErrAnd r (λ f. f ≡ NoMemory) →
    LogsNone a.problem a.lines b.lines → GoesOn a b → BoostsOn a b r
boosts_memory {T} a b r is none on =
    let p = err_from_is_err_and r is in
    subst (λ (q : Result T OracleFault). BoostsOn a b q) (sym (p.1 ∙ ap (λ (g : OracleFault). Err g) p.2))
    (record { may = λ order. absurd order; none = none; fault = tt; goes_on = on })

fault_after : {T : Type 0} (a b c : Snapshot) (r : Result T OracleFault) → GoesOn a b → IfErr r (IsSearchFault b c) → IfErr r (IsSearchFault a c)
fault_after a b c (Ok x) on is = tt
fault_after a b c (Err (Spent learned)) on is = is
fault_after a b c (Err Failed) on is = let x = on.later in omega arith
fault_after a b c (Err Full) on is = is
fault_after a b c (Err NoMemory) on is = tt

-- a call after others
pub boosts_after : {T U : Type 0} (a b c : Snapshot) (x : U) (r : Result T OracleFault) → BoostsOn {T = U} a b (Ok x) → BoostsOn b c r → BoostsOn a c r
boosts_after a b c x r one call = record {
  may = call.may;
  none = none_twice a b c one.goes_on.problem one.none call.none;
  fault = fault_after a b c r one.goes_on call.fault;
  goes_on = goes_twice a b c one.goes_on call.goes_on;
}

-- ---- a recorder's calls

goes_by : (a b : Snapshot) → Continues a b → GoesOn a b
goes_by a b on = record { problem = on.problem; limit = on.limit; later = on.later; around = on.around; lines = totalizer_lines a b on }

pub boosts_recorded : {T : Type 0} (a b : Snapshot) (x : T) → Continues a b → MayBoost b → BoostsOn {T = T} a b (Ok x)
boosts_recorded a b x on may = boosts_ok a b x may (totalizer_logs_none a b on) (goes_by a b on)

ended : (T : Type 0) (f : RecordFault) → IsInOrder {T = T} (Err (fault_of_recording f)) → ⊥
ended T RecordingFailed order = order
ended T RecordFull order = order
ended T RecordNoMemory order = order

fault_here : (a b : Snapshot) (f : RecordFault) → IsFaultAt a b f → IsSearchFault a b (fault_of_recording f)
fault_here a b RecordingFailed is = is
fault_here a b RecordFull is = is.0
fault_here a b RecordNoMemory is = tt

-- a fault of recording, which `?` makes one of the oracle
pub boosts_recording : {T : Type 0} (a b : Snapshot) (r : Result T OracleFault) (f : RecordFault) →
    IsErrAnd r (λ g. g ≡ fault_of_recording f) → IsFaultAt a b f → Continues a b → BoostsOn a b r
boosts_recording {T} a b r f is fault on =
    let p = err_from_is_err_and r is in
    subst (λ (q : Result T OracleFault). BoostsOn a b q) (sym (p.1 ∙ ap (λ (g : OracleFault). Err g) p.2))
    (record { may = λ order. absurd (ended T f order); none = totalizer_logs_none a b on; fault = fault_here a b f fault; goes_on = goes_by a b on })

-- ---- an oracle's call

module _ (a b : Snapshot) (may : MayBoost a) (keeps : KeepsRecorder a b) (lines : AddsSearchLines a.problem a.lines b.lines)
    (within : IsWithin a.limit a.problem b.lines) where
  goes_asked : GoesOn a b
  goes_asked = record { problem = keeps.problem; limit = keeps.limit; later = keeps.later; around = keeps.around; lines = search_lines a.problem a.lines b.lines lines }

  pub may_asked : b.broken ≡ false → AreEarned a.problem b.lines → MayBoost b
  may_asked whole earned =
      let here : AreEarned b.problem b.lines = subst (λ (p : ProblemValue). AreEarned p b.lines) (sym keeps.problem) earned in
      record {
        ready = ready_after a b here.1.replays.0 may.ready (search_lines a.problem a.lines b.lines lines) keeps.problem whole here.1.replays.1;
        earned = here;
        within = subst (λ (p : ProblemValue). IsWithin b.limit p b.lines) (sym keeps.problem)
            (subst (λ (n : Option ℕ). IsWithin n a.problem b.lines) (sym keeps.limit) within);
      }

  pub boosts_asked : {T : Type 0} (x : T) → b.broken ≡ false → AreEarned a.problem b.lines → BoostsOn {T = T} a b (Ok x)
  boosts_asked x whole earned = boosts_ok a b x (may_asked whole earned) (search_logs_none a.problem a.lines b.lines lines) goes_asked

  abbrev WhyNot : OracleFault → Type 0
  WhyNot f = HasFault f a.limit a.problem b.lines (Rose a.faults b.faults) b.broken

  spent : (T : Type 0) (f : OracleFault) → (IsOrderly (Err f) → AreEarned a.problem b.lines) → WhyNot f → IsInOrder {T = T} (Err f) → MayBoost b
  spent T (Spent learned) earned fault order = may_asked fault.1 (earned tt)
  spent T Failed earned fault order = absurd order
  spent T Full earned fault order = absurd order
  spent T NoMemory earned fault order = absurd order

  why : (f : OracleFault) → WhyNot f → IsSearchFault a b f
  why (Spent learned) is = subst (λ (q : ProblemValue). IsSpent b.limit q b.lines learned) (sym keeps.problem)
      (subst (λ (n : Option ℕ). IsSpent n a.problem b.lines learned) (sym keeps.limit) is.0)
  why Failed is = is.0
  why Full is = is.0
  why NoMemory is = tt

  -- it didn't answer
  pub boosts_refused : {T : Type 0} (r : Result T OracleFault) (f : OracleFault) → IsErrAnd r (λ g. g ≡ f) →
      (IsOrderly (Err f) → AreEarned a.problem b.lines) → WhyNot f → BoostsOn a b r
  boosts_refused {T} r f is earned fault =
      let p = err_from_is_err_and r is in
      subst (λ (q : Result T OracleFault). BoostsOn a b q) (sym (p.1 ∙ ap (λ (g : OracleFault). Err g) p.2))
      (record { may = spent T f earned fault; none = search_logs_none a.problem a.lines b.lines lines; fault = why f fault; goes_on = goes_asked })
