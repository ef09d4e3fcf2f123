-- Calls one after another: what they add, and their faults.
use Rattle.std.proofs.Common.{◌≡◌, ℕ, false, Option, Result, Ok, Err, arith, sym, subst}
use Rattle.std.specs.Prelude.{IfErr}
use Rattle.scut_base.specs.Faults.{Rose}
use Rattle.pb_lin.specs.Problem.{ProblemValue}
use Rattle.proof_laws.specs.State.{StateValue}
use Rattle.proof_laws.proofs.Replays.{replay_once}
use Rattle.proof_rules.specs.Recording.{Snapshot, KeepsRecorder}
use Rattle.proof_rules.specs.declared.recorder.RecordFault.{RecordFault}
use Rattle.proof_rules.specs.declared.recorder.RecordFault.TheVariants.{Failed as RecordingFailed, Full as RecordFull, NoMemory as RecordNoMemory}
use Rattle.oracle.specs.Solving.{AddsSearchLines, AreEarned, HasFault, IsOrderly, IsSpent, IsWithin, Reaches, fault_of_recording}
use Rattle.oracle.specs.declared.fault.OracleFault.{OracleFault}
use Rattle.oracle.specs.declared.fault.OracleFault.TheVariants.{Spent, Failed, Full, NoMemory}
use Rattle.sum_outputs.specs.Adding.{Continues, IsFaultAt, IsReady}
use Rattle.sum_outputs.proofs.LaterStates.{fault_later}
use Rattle.search_base.specs.Good.{GoesOn}
use Rattle.search_base.specs.Laws.{TurnLinesJoin}
use Rattle.search_base.specs.Pending.{AskingStaysGoodBut}
use Rattle.search_base.specs.Turns.{IsInOrder, IsSearchFault}
use Rattle.relaxations.specs.Ending.{StaysGoodBut}

-- ---- before a call

pub not_ended : (a : Snapshot) → IsReady a → Reaches a.problem a.lines (λ s. s.ended ≡ false)
not_ended a ready s reached =
    subst (λ (t : StateValue). t.ended ≡ false)
    (replay_once a.problem a.lines ready.state s ready.reached reached) ready.unended

-- ---- what a call adds

pub oracle_goes_on : TurnLinesJoin → (a b : Snapshot) → KeepsRecorder a b → AddsSearchLines a.problem a.lines b.lines
    → GoesOn a b
oracle_goes_on join a b keeps lines = record {
  problem = keeps.problem;
  limit = keeps.limit;
  later = keeps.later;
  around = keeps.around;
  lines = join.search a.problem a.lines b.lines lines;
}

-- ---- faults

-- after a fault of recording not all may go on
pub ended : (T : Type 0) (f : RecordFault) → IsInOrder {T = T} (Err (fault_of_recording f)) → ⊥
ended T RecordingFailed order = order
ended T RecordFull order = order
ended T RecordNoMemory order = order

pub fault_here : (a b : Snapshot) (f : RecordFault) → IsFaultAt a b f → IsSearchFault a b (fault_of_recording f)
fault_here a b RecordingFailed is = is
fault_here a b RecordFull is = is.0
fault_here a b RecordNoMemory is = tt

pub fault_after : {T : Type 0} (a b c : Snapshot) (r : Result T OracleFault) → GoesOn a b → IfErr r (IsSearchFault b c)
    → IfErr r (IsSearchFault a c)
fault_after a b c (Ok x) on is = tt
fault_after a b c (Err (Spent learned)) on is = is
fault_after a b c (Err Failed) on is = let x = on.later in omega arith
fault_after a b c (Err Full) on is = is
fault_after a b c (Err NoMemory) on is = tt

-- a call's fault, after lines of a totalizer
pub fault_after_lines : {T : Type 0} (a b c : Snapshot) (r : Result T RecordFault) → Continues a b
    → IfErr r (IsFaultAt b c) → IfErr r (IsFaultAt a c)
fault_after_lines a b c (Ok x) on is = tt
fault_after_lines a b c (Err f) on is = fault_later a b c f on is

-- ---- an oracle's call

module _ (law : AskingStaysGoodBut) (a b : Snapshot) (keeps : KeepsRecorder a b)
    (lines : AddsSearchLines a.problem a.lines b.lines) (within : IsWithin a.limit a.problem b.lines) where
  pub asked_stays : b.broken ≡ false → AreEarned a.problem b.lines → StaysGoodBut a b
  asked_stays whole earned bounds front pending good =
      let here : AreEarned b.problem b.lines =
      subst (λ (p : ProblemValue). AreEarned p b.lines) (sym keeps.problem) earned in
      law a b here.1.replays.0 bounds front pending good here.1.replays.1 (record {
        problem = keeps.problem;
        limit = keeps.limit;
        whole = whole;
        later = keeps.later;
        around = keeps.around;
        lines = lines;
        earned = here;
        within = subst (λ (p : ProblemValue). IsWithin b.limit p b.lines) (sym keeps.problem)
            (subst (λ (n : Option ℕ). IsWithin n a.problem b.lines) (sym keeps.limit) within);
      })

  -- it spent what it may
  pub spent_stays : (f : OracleFault) (learned : ℕ) → f ≡ Spent learned →
      HasFault f a.limit a.problem b.lines (Rose a.faults b.faults) b.broken →
      (IsOrderly (Err f) → AreEarned a.problem b.lines) → StaysGoodBut a b
  spent_stays f learned is fault earned =
      let why : HasFault (Spent learned) a.limit a.problem b.lines (Rose a.faults b.faults) b.broken =
      subst (λ (g : OracleFault). HasFault g a.limit a.problem b.lines (Rose a.faults b.faults) b.broken) is fault in
      asked_stays why.1 (subst (λ (g : OracleFault). IsOrderly (Err g) → AreEarned a.problem b.lines) is earned tt)

-- why it didn't answer
pub refused : (a b : Snapshot) → KeepsRecorder a b → (f : OracleFault) →
    HasFault f a.limit a.problem b.lines (Rose a.faults b.faults) b.broken → IsSearchFault a b f
refused a b keeps (Spent learned) is = subst (λ (q : ProblemValue). IsSpent b.limit q b.lines learned) (sym keeps.problem)
    (subst (λ (n : Option ℕ). IsSpent n a.problem b.lines learned) (sym keeps.limit) is.0)
refused a b keeps Failed is = is.0
refused a b keeps Full is = is.0
refused a b keeps NoMemory is = tt
