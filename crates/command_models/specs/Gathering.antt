-- How the models of entries are gathered one after another, and then written; nothing of it has to be believed.
use Rattle.std.specs.Prelude.{◌≡◌, ◌⊎◌, ◌↔◌, ℕ, ◌+◌, ◌<◌, ◌≤◌, ◌^◌, true, List, length, Option}
use Rattle.scut_base.specs.Faults.{Faults, Rose, WritingFailed}
use Rattle.scut_base.specs.Files.{Files, IsTold, IsTouched, content}
use Rattle.front_set.specs.declared.entry.Entry.{Entry}
use Rattle.instance.specs.ParetoFront.{problem_vector}
use Rattle.instance.specs.Shape.{InstanceValue}
use Rattle.front_text.specs.declared.reps.Reps.{Reps}
use Rattle.pb_lin.specs.Problem.{ProblemValue}
use Rattle.proof_rules.specs.declared.recorder.RecordFault.{RecordFault}
use Rattle.proof_rules.specs.declared.recorder.RecordFault.TheVariants.{Failed, Full, NoMemory}
use Rattle.representatives.specs.Representatives.{AreReps}
use Rattle.representative_search.specs.Gathered.{IsGatherStop, IsPartOfSearch, ListsAll}
use Rattle.command_check_models.specs.Entries.{AreRightFrom}
use Rattle.command_check_models.specs.Words.{ModelsAsked, log_name, models_name}
use Rattle.command_models.specs.Table.{AreTouched, HasFullLog, IsLogOf, LogsTouchedFrom}

-- ---- one entry

-- the log of entry n is as before, or a part of one, and no other file has changed
abbrev pub IsLogTouched : Option Files → Option Files → ModelsAsked → InstanceValue → ProblemValue → ℕ → Entry → Type 0
IsLogTouched old new a i p n e = IsTouched old new (log_name a.base n) (IsPartOfSearch p (problem_vector i e.costs))

-- these are representatives, and where they are all, the log shows it
pub record IsEntryGathered (old new : Option Files) (a : ModelsAsked) (i : InstanceValue) (p : ProblemValue) (n : ℕ) (e : Entry) (r : Reps) : Type 0 where
  pub reps : AreReps i e.costs a.most r.all r.models
  pub log : r.all ≡ true → ListsAll old new (log_name a.base n) p (problem_vector i e.costs) r.models
  pub touched : IsLogTouched old new a i p n e

-- why they aren't gathered
pub record IsEntryStop (fault : RecordFault) (old new : Option Files) (a : ModelsAsked) (i : InstanceValue) (p : ProblemValue) (n : ℕ) (e : Entry) (before after : Faults) : Type 0 where
  pub stop : IsGatherStop fault old new (log_name a.base n) p (problem_vector i e.costs) before after
  pub touched : IsLogTouched old new a i p n e

-- ---- all entries

-- the logs of these entries, and no others, have changed
pub record AreLogsTouched (old new : Option Files) (a : ModelsAsked) (i : InstanceValue) (p : ProblemValue) (entries : List Entry) : Type 0 where
  pub logs : LogsTouchedFrom old new a i p 1 entries
  pub told : IsTold old ↔ IsTold new
  pub others : (name : List ℕ) → (IsLogOf a (length entries) name → ⊥) → content new name ≡ content old name

-- these are the models of the entries, with their logs
pub record AreGathered (old new : Option Files) (a : ModelsAsked) (i : InstanceValue) (p : ProblemValue) (entries : List Entry) (reps : List Reps) : Type 0 where
  pub each : AreRightFrom new a i p 1 entries reps
  pub touched : AreLogsTouched old new a i p entries

-- a count of the calls that write the log of one of so many entries rose
abbrev pub LogFailed : ModelsAsked → ℕ → Faults → Faults → Type 0
LogFailed a count before after = (n : ℕ) × (0 < n) × (n ≤ count) × WritingFailed before after (log_name a.base n)

-- why the entries' models aren't gathered
abbrev pub IsCause : RecordFault → Option Files → ModelsAsked → InstanceValue → ProblemValue → List Entry → (Failure : Type 0) → Type 0
IsCause Failed new a i p entries Failure = Failure
IsCause Full new a i p entries Failure = HasFullLog new a i p entries
IsCause NoMemory new a i p entries Failure = Unit {0}

pub record IsGatheringStop (fault : RecordFault) (old new : Option Files) (a : ModelsAsked) (i : InstanceValue) (p : ProblemValue) (entries : List Entry) (before after : Faults) : Type 0 where
  pub cause : IsCause fault new a i p entries (LogFailed a (length entries) before after)
  pub touched : AreLogsTouched old new a i p entries

-- the same of writing their text besides
pub record IsWritingStop (fault : RecordFault) (old new : Option Files) (a : ModelsAsked) (i : InstanceValue) (p : ProblemValue) (entries : List Entry) (before after : Faults) : Type 0 where
  pub cause : IsCause fault new a i p entries (LogFailed a (length entries) before after ⊎ WritingFailed before after (models_name a.base))
  pub touched : AreTouched old new a i p entries
