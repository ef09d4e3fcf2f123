-- How the models of entries are judged one after another; nothing of it has to be believed.
use Rattle.std.specs.Prelude.{◌≡◌, ◌≢◌, ℕ, zero, suc, ◌<◌, ◌≤◌, ◌^◌, true, List, length, Option}
use Rattle.scut_base.specs.Faults.{Faults, ReadingFailed}
use Rattle.scut_base.specs.Files.{Files}
use Rattle.front_set.specs.declared.entry.Entry.{Entry}
use Rattle.instance.specs.ParetoFront.{IsProblemVector}
use Rattle.instance.specs.Shape.{InstanceValue, IsWithinLimits}
use Rattle.instance.specs.declared.fault.InstanceLimit.TheVariants.{Bytes}
use Rattle.instance_normal.specs.NormalForm.{IsNormalFormOf}
use Rattle.front_text.specs.ModelsText.{models_text}
use Rattle.front_text.specs.ModelsSpelling.{IsSyntaxAt}
use Rattle.front_text.specs.declared.reps.Reps.{Reps}
use Rattle.pb_lin.specs.Problem.{ProblemValue}
use Rattle.representatives.specs.declared.fault.RepsWhy.{RepsWhy}
use Rattle.representatives.specs.declared.fault.RepsWhy.TheVariants.{Syntax, Count, Log}
use Rattle.command_base.specs.Causes.{HasText}
use Rattle.command_base.specs.declared.status.Status.{Status}
use Rattle.command_base.specs.declared.status.Status.TheVariants.{ModelsRefused, TooLarge, NoMemory as StatusNoMemory, ShelfFailed as StatusFailed}
use Rattle.command_base.specs.declared.stops.LogStop.{LogStop}
use Rattle.command_base.specs.declared.stops.LogStop.TheVariants.{Refused as LineWrong, Large as LogLarge, NoMemory as LogMemory, ShelfFailed as LogFailed}
use Rattle.command_check_models.specs.Entries.{AfterRight, IsEntryWrong, IsLargeLog, IsMarkedAll}
use Rattle.command_check_models.specs.Words.{ModelsAsked, log_name, models_name}
use Rattle.command_check_models.specs.declared.stop.ModelsStop.{ModelsStop}
use Rattle.command_check_models.specs.declared.stop.ModelsStop.TheVariants.{Refused, Large, NoMemory, ShelfFailed}

-- the status of each
abbrev pub status_of_models : ModelsStop → Status
status_of_models (Refused entry why) = ModelsRefused entry why
status_of_models Large = TooLarge 0 Bytes
status_of_models NoMemory = StatusNoMemory
status_of_models ShelfFailed = StatusFailed

-- ---- reading the text of all models

-- the file holds the text of these, and it is one that is taken
abbrev pub IsModelsText : Option Files → List ℕ → List Reps → Type 0
IsModelsText files base reps = HasText files (models_name base) (λ text. (length text < 2 ^ 32) × (text ≡ models_text reps))

-- why this text isn't read
abbrev pub IsTextStop : List ℕ → ModelsStop → Type 0
IsTextStop text (Refused k Syntax) = IsSyntaxAt text k
IsTextStop text NoMemory = Unit {0}
IsTextStop text stop = ⊥

-- why the file isn't read
abbrev pub IsReadingStop : ModelsStop → Option Files → List ℕ → Faults → Faults → Type 0
IsReadingStop (Refused k Syntax) files base before after = HasText files (models_name base) (λ text. (length text < 2 ^ 32) × IsSyntaxAt text k)
IsReadingStop (Refused k why) files base before after = ⊥
IsReadingStop Large files base before after = HasText files (models_name base) (λ text. 2 ^ 32 ≤ length text)
IsReadingStop NoMemory files base before after = Unit {0}
IsReadingStop ShelfFailed files base before after = ReadingFailed before after (models_name base)

-- ---- one entry

-- what the models of an entry are judged with
pub record IsGivenEntry (i : InstanceValue) (p : ProblemValue) (e : Entry) : Type 0 where
  pub limits : IsWithinLimits i
  pub normal : IsNormalFormOf i p
  pub vector : IsProblemVector i e.costs

-- the stop of a log of entry n
abbrev pub stop_of : ℕ → LogStop → ModelsStop
stop_of n (LineWrong line why) = Refused n (Log line why)
stop_of n LogLarge = Large
stop_of n LogMemory = NoMemory
stop_of n LogFailed = ShelfFailed

-- why the models of entry n aren't accepted
abbrev pub IsEntryStop : ModelsStop → Option Files → ModelsAsked → InstanceValue → ProblemValue → ℕ → Entry → Reps → Faults → Faults → Type 0
IsEntryStop (Refused k why) files a i p n e r before after = (k ≡ n) × IsEntryWrong files a i p n e r why
IsEntryStop Large files a i p n e r before after = IsLargeLog files a i p n e r
IsEntryStop NoMemory files a i p n e r before after = Unit {0}
IsEntryStop ShelfFailed files a i p n e r before after = (r.all ≡ true) × ReadingFailed before after (log_name a.base n)

-- ---- all entries

-- why the models of these entries aren't accepted
abbrev pub IsJudgingStop : ModelsStop → Option Files → ModelsAsked → InstanceValue → ProblemValue → List Entry → List Reps → Faults → Faults → Type 0
IsJudgingStop (Refused zero Count) files a i p entries reps before after = length reps ≢ length entries
IsJudgingStop (Refused zero why) files a i p entries reps before after = ⊥
IsJudgingStop (Refused (suc k) why) files a i p entries reps before after = (length reps ≡ length entries) × AfterRight files a i p entries reps k (λ n e r. IsEntryWrong files a i p n e r why)
IsJudgingStop Large files a i p entries reps before after =
    (length reps ≡ length entries) × (k : ℕ) × AfterRight files a i p entries reps k (IsLargeLog files a i p)
IsJudgingStop NoMemory files a i p entries reps before after = Unit {0}
IsJudgingStop ShelfFailed files a i p entries reps before after = (length reps ≡ length entries) × (n : ℕ) × IsMarkedAll reps n × ReadingFailed before after (log_name a.base n)
