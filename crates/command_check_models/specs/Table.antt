-- The answers of `check-models IN LIST K BASE`, a record for each.
use Rattle.std.specs.Prelude.{◌≡◌, ℕ, zero, ◌<◌, ◌≤◌, ◌^◌, ◌⊎◌, true, List, [], ◌∷◌, length, Option, Some}
use Rattle.scut_base.specs.Files.{Files, content, followed, IsPartlyFollowed}
use Rattle.scut_base.specs.World.{World}
use Rattle.front_set.specs.declared.entry.Entry.{Entry}
use Rattle.front_text.specs.Spelling.{Spells}
use Rattle.instance.specs.declared.fault.InstanceLimit.TheVariants.{Bytes}
use Rattle.instance.specs.Shape.{InstanceValue}
use Rattle.instance_normal.specs.NormalForm.{IsNormalFormOf}
use Rattle.log_checker.specs.declared.fault.CheckFault.TheVariants.{ListRefused}
use Rattle.log_checker.specs.Accepted.{IsRightList}
use Rattle.log_checker.specs.ListFaults.{IsListFault}
use Rattle.front_text.specs.ModelsText.{models_text}
use Rattle.front_text.specs.declared.reps.Reps.{Reps}
use Rattle.pb_lin.specs.Problem.{ProblemValue}
use Rattle.representatives.specs.declared.fault.RepsWhy.{RepsWhy}
use Rattle.command_base.specs.Answering.{Call, Completes, Runs, reading, reading_each, saying}
use Rattle.command_base.specs.Causes.{HasCauseIn, HasText}
use Rattle.command_base.specs.InputTable.{InputTable}
use Rattle.command_base.specs.Inputs.{OfInstance, OfList}
use Rattle.command_base.specs.InstanceFile.{IsTextOf}
use Rattle.command_base.specs.Messages.{said_of}
use Rattle.command_base.specs.Views.{View}
use Rattle.command_base.specs.declared.status.Status.{Status}
use Rattle.command_base.specs.declared.status.Status.TheVariants.{Accepted, ModelsRefused, Refused, TooLarge, NoMemory, ShelfFailed}
use Rattle.command_check_models.specs.Entries.{AreLogsTakenFrom, AreRightFrom, HasLargeLog, IsMarkedAll, IsModelsFault, IsOfAll, IsPosed}
use Rattle.command_check_models.specs.Words.{ModelsAsked, log_name, models_name}

-- ---- the rows that come of reading IN and LIST

-- the first of these files that is too large: IN, or LIST where IN spells an instance
abbrev pub HasLargeInput : Option Files → ModelsAsked → Type 0
HasLargeInput files a = HasText files a.input (λ text. 2 ^ 32 ≤ length text) ⊎ OfInstance files a.format a.input (λ i. HasText files a.list (λ listed. 2 ^ 32 ≤ length listed))

-- `models` has these rows too
abbrev pub ListTable : ModelsAsked → Status → View → View → Type 0
ListTable a (Refused (ListRefused k why)) before after = HasCauseIn before after (OfList before.files a.format a.input a.list (λ i listed. IsListFault i listed k why))
ListTable a (TooLarge zero Bytes) before after = HasCauseIn before after (HasLargeInput before.files a)
ListTable a status before after = InputTable a.format a.input status before after

-- ---- the answers

-- IN, LIST and the text of all models are there, and P holds of the instance, the entries, the normal form and the text.
pub record OfModels (files : Option Files) (a : ModelsAsked) (P : InstanceValue → ProblemValue → List Entry → List ℕ → Type 0) : Type 0 where
  pub instance : InstanceValue
  pub entries : List Entry
  pub problem : ProblemValue
  pub posed : IsPosed files a instance entries problem
  pub text : HasText files (models_name a.base) (P instance problem entries)

-- there are models of as many entries as LIST has, and those of entry n are to be all, so that its log is read
abbrev pub IsLogRead : ModelsAsked → Option Files → ℕ → Type 0
IsLogRead a files n = OfModels files a (λ i p entries text. IsOfAll entries text (λ reps. IsMarkedAll reps n))

-- it reads IN, LIST, the text of all models and these logs, and says something
abbrev pub check_models_calls : ModelsAsked → List Call
check_models_calls a = reading a.input ∷ reading a.list ∷ reading (models_name a.base) ∷ reading_each (log_name a.base) (IsLogRead a) ∷ saying ∷ []

-- the text is one that is taken, the models of each entry are right, and no log that shows which are all is too large
pub record AreRight (files : Option Files) (a : ModelsAsked) (i : InstanceValue) (p : ProblemValue) (entries : List Entry) (text : List ℕ) : Type 0 where
  pub taken : length text < 2 ^ 32
  pub reps : List Reps
  pub spelled : text ≡ models_text reps
  pub each : AreRightFrom files a i p 1 entries reps
  pub logs_taken : AreLogsTakenFrom files a 1 reps

-- Accepted: the models of each entry are representatives of its vector. No file has changed.
pub record AreAcceptedSaid (before after : View) (a : ModelsAsked) : Type 0 where
  pub cause : OfModels before.files a (AreRight before.files a)
  pub files : after.files ≡ before.files
  pub said : after.said ≡ followed before.said (said_of Accepted)

-- saying was cut off: the models are right, and a prefix of that was said
pub record ArePartlyAccepted (before after : View) (a : ModelsAsked) : Type 0 where
  pub cause : OfModels before.files a (AreRight before.files a)
  pub said : IsPartlyFollowed before.said after.said (said_of Accepted)

-- NoMemory and ShelfFailed: no file has changed; something is said only where the models are right.
pub record IsCutOff (before after : View) (a : ModelsAsked) : Type 0 where
  pub files : after.files ≡ before.files
  pub said : (after.said ≡ before.said) ⊎ ArePartlyAccepted before after a

-- the first of the files that is too large: IN, LIST, the text of all models, or a log
abbrev pub HasLargeFile : Option Files → ModelsAsked → Type 0
HasLargeFile files a = HasLargeInput files a
    ⊎ (OfModels files a (λ i p entries text. 2 ^ 32 ≤ length text)
    ⊎ OfModels files a (λ i p entries text. (length text < 2 ^ 32) × HasLargeLog files a i p entries text))

-- The table. No two causes of a refusal hold of the same files.
abbrev pub CheckModelsTable : ModelsAsked → Status → View → View → Type 0
CheckModelsTable a Accepted before after = AreAcceptedSaid before after a
CheckModelsTable a (ModelsRefused k why) before after =
    HasCauseIn before after (OfModels before.files a (λ i p entries text. (length text < 2 ^ 32) × IsModelsFault before.files a i p entries k why text))
CheckModelsTable a (TooLarge zero Bytes) before after = HasCauseIn before after (HasLargeFile before.files a)
CheckModelsTable a NoMemory before after = IsCutOff before after a
CheckModelsTable a ShelfFailed before after = IsCutOff before after a
CheckModelsTable a status before after = ListTable a status before after

-- it answers so, and warns of nothing
abbrev pub CheckModelsRuns : ModelsAsked → Status → World → World → Type 0
CheckModelsRuns a = Runs (CheckModelsTable a) (check_models_calls a)

-- ---- where it completes

-- IN, LIST and the text of all models are there and none is too large, the models of each entry are right, and no log is too large
pub record AreAcceptable (a : ModelsAsked) (files : Option Files) : Type 0 where
  pub text : List ℕ
  pub there : content files a.input ≡ Some text
  pub instance : InstanceValue
  pub spelled : IsTextOf a.format instance text
  pub listed : List ℕ
  pub list_there : content files a.list ≡ Some listed
  pub list_taken : length listed < 2 ^ 32
  pub entries : List Entry
  pub list_spelled : Spells listed true entries
  pub right : IsRightList instance entries
  pub problem : ProblemValue
  pub normal : IsNormalFormOf instance problem
  pub reps : List Reps
  pub models_there : content files (models_name a.base) ≡ Some (models_text reps)
  pub models_taken : length (models_text reps) < 2 ^ 32
  pub each : AreRightFrom files a instance problem 1 entries reps
  pub logs_taken : (n : ℕ) (log : List ℕ) → content files (log_name a.base n) ≡ Some log → length log < 2 ^ 62

-- Where that is so and no own call failed, the models are accepted, unless memory is wanted.
abbrev pub CheckModelsCompletes : ModelsAsked → Status → World → World → Type 0
CheckModelsCompletes a = Completes (AreAcceptable a) (λ files are status. status ≡ Accepted) (check_models_calls a)
