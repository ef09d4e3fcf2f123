-- What a search for one model of a problem leaves.
use Rattle.std.specs.Prelude.{◌≡◌, ◌≤◌, ◌^◌, ℕ, Bool, true, false, List, [], length, take, Option, Some, None, Result, IfOk, IfErr, IsErrOf, OnOk}
use Rattle.std.specs.FinMap.{get}
use Rattle.scut_base.specs.Faults.{NoneFell, Rose}
use Rattle.scut_base.specs.Files.{Files, IsTouched, with_file}
use Rattle.scut_base.specs.World.{World}
use Rattle.pb_lin.specs.Problem.{ProblemValue, IsProblemModel}
use Rattle.proof_laws.specs.State.{StateValue}
use Rattle.proof_laws.specs.Replay.{IsReplay}
use Rattle.proof_laws.specs.declared.line.Line.{Line}
use Rattle.proof_laws.specs.declared.line.Line.TheVariants.{End}
use Rattle.proof_rules.specs.Recording.{KeepsSurroundings, Snapshot}
use Rattle.proof_rules.specs.declared.recorder.RecordFault.{RecordFault}
use Rattle.proof_rules.specs.declared.recorder.RecordFault.TheVariants.{Failed, Full}
use Rattle.proof_text.specs.LogParts.{IsLogStopped, IsPartOfLog}
use Rattle.proof_text.specs.declared.version.LogVersion.TheVariants.{One}
use Rattle.log_checker.specs.Accepted.{IsEndedProof}
use Rattle.oracle.specs.Solving.{AddsSearchLines, Reaches}
use Rattle.representative_search.specs.declared.relaxing.Relaxed.{Relaxed}
use Rattle.representative_search.specs.declared.relaxing.Relaxed.TheVariants.{Known, Unknown}

-- ---- the file

-- the log is an ended proof that logs nothing
abbrev pub IsRefuted : Option Files → Option Files → List ℕ → ProblemValue → Type 0
IsRefuted old new name p = (log : List ℕ) × IsEndedProof p [] log × (new ≡ with_file old name log)

-- an assignment that is a model where it is cut to the problem's variables; or none, and the log shows it
abbrev pub IsSought : Option Files → Option Files → List ℕ → ProblemValue → Option (List Bool) → Type 0
IsSought old new name p (Some a) = (p.vars ≤ length a) × IsProblemModel p (take p.vars a)
IsSought old new name p None = IsRefuted old new name p

-- P holds of what a relaxation tells, if it tells anything
abbrev pub WhereKnown : Relaxed → (Option (List Bool) → Type 0) → Type 0
WhereKnown (Known found) P = P found
WhereKnown Unknown P = Unit {0}

-- the file of this name is as before or holds a part, and all else is as before
pub record TouchesFile (Part : List ℕ → Type 0) (name : List ℕ) (before after : World) : Type 0 where
  pub touched : IsTouched before.files after.files name Part
  pub said : after.said ≡ before.said
  pub warned : after.warned ≡ before.warned
  pub later : NoneFell before.faults after.faults

-- what is found, or why nothing was; only the file of this name was touched
pub record LeavesFile {A : Type 0} (Found : A → Type 0) (Stop : RecordFault → Type 0) (Part : List ℕ → Type 0) (name : List ℕ) (before after : World) (result : Result A RecordFault) : Type 0 where
  pub found : IfOk result Found
  pub stop : IfErr result Stop
  pub keeps : TouchesFile Part name before after

-- the same of a log over one problem
abbrev pub LeavesLog : {A : Type 0} → (A → Type 0) → ProblemValue → List ℕ → World → World → Result A RecordFault → Type 0
LeavesLog Found p name before after = LeavesFile Found (λ fault. IsLogStopped fault before.files after.files p name One before.faults after.faults) (IsPartOfLog One p) name before after

-- ---- any recorder

-- the lines lead to an end, and log nothing
abbrev pub HasEnded : ProblemValue → List Line → Type 0
HasEnded p lines = (s : StateValue) × IsReplay p lines s × (s.ended ≡ true) × (s.sols ≡ [])

-- an assignment that is a model where it is cut to the problem's variables; or none, and the lines show that there is none
abbrev pub IsFound : ProblemValue → List Line → Option (List Bool) → Type 0
IsFound p lines (Some a) = (p.vars ≤ length a) × IsProblemModel p (take p.vars a)
IsFound p lines None = HasEnded p lines

-- the same of what a relaxation tells
abbrev pub IsRelaxed : ProblemValue → List Line → Relaxed → Type 0
IsRelaxed p lines told = WhereKnown told (IsFound p lines)

-- what is found, and why nothing was; what stands around the recorder stays
pub record Leaves {A : Type 0} (Found : List Line → A → Type 0) (a b : Snapshot) (result : Result A RecordFault) : Type 0 where
  pub found : IfOk result (Found b.lines)
  pub whole : OnOk result (b.broken ≡ false)
  pub failed : IsErrOf result Failed → Rose a.faults b.faults
  pub full : IsErrOf result Full → length b.lines ≡ 2 ^ 61
  pub problem : b.problem ≡ a.problem
  pub around : KeepsSurroundings a.around b.around

-- nothing but lines of a search was recorded, and more may be
pub record HasSearched (a : Snapshot) : Type 0 where
  pub whole : a.broken ≡ false
  pub lines : AddsSearchLines a.problem [] a.lines

-- a line that ends the proof may be added, and the proof logs nothing
pub record IsOpen (a : Snapshot) : Type 0 where
  pub whole : a.broken ≡ false
  pub state : Reaches a.problem a.lines (λ s. (s.ended ≡ false) × (s.sols ≡ []))

-- the line ends the proof, by a live line `0 >= 1`
abbrev pub EndsBy : Snapshot → Line → Type 0
EndsBy a (End id) = Reaches a.problem a.lines (λ s. get s.live id ≡ Some (record { terms = []; degree = 1 }))
EndsBy a line = ⊥
