-- The answers of `models IN LIST K BASE`, a record for each.
use Rattle.std.specs.Prelude.{◌≡◌, ◌≢◌, ◌↔◌, ◌⊎◌, ℕ, ◌+◌, ◌<◌, ◌≤◌, ◌^◌, true, List, [], ◌∷◌, ◌++◌, length, Option, Some, ℤ}
use Rattle.std.specs.List.{AllZip}
use Rattle.scut_base.specs.Files.{Files, content, followed, IsPartlyFollowed, IsPrefixOf, IsTold}
use Rattle.scut_base.specs.World.{World}
use Rattle.front_set.specs.declared.entry.Entry.{Entry}
use Rattle.front_text.specs.Spelling.{Spells}
use Rattle.instance.specs.ParetoFront.{problem_vector}
use Rattle.instance.specs.Shape.{InstanceValue}
use Rattle.log_checker.specs.Accepted.{IsRightList}
use Rattle.front_text.specs.ModelsText.{models_text}
use Rattle.front_text.specs.declared.reps.Reps.{Reps}
use Rattle.pb_lin.specs.Problem.{ProblemValue}
use Rattle.proof_laws.specs.Replay.{IsReplay}
use Rattle.proof_laws.specs.State.{StateValue}
use Rattle.proof_laws.specs.declared.line.Line.{Line}
use Rattle.proof_text.specs.LogText.{SpellsLog}
use Rattle.representatives.specs.Representatives.{AreReps}
use Rattle.representative_search.specs.Gathered.{IsPartOfSearch, OfBounded}
use Rattle.command_base.specs.Answering.{Call, Completes, Runs, appending, appending_each, beginning, beginning_each, reading, saying}
use Rattle.command_base.specs.Causes.{HasText}
use Rattle.command_base.specs.InstanceFile.{IsTextOf}
use Rattle.command_base.specs.Messages.{said_of}
use Rattle.command_base.specs.Views.{View}
use Rattle.command_base.specs.WholeFile.{IsWhole}
use Rattle.command_base.specs.declared.status.Status.{Status}
use Rattle.command_base.specs.declared.status.Status.TheVariants.{Models, LogFull, NoMemory, ShelfFailed}
use Rattle.command_check_models.specs.Entries.{AreRightFrom, IsPosed}
use Rattle.command_check_models.specs.Table.{ListTable}
use Rattle.command_check_models.specs.Words.{ModelsAsked, log_name, models_name}

-- ---- its files

-- the log of one of so many entries
abbrev pub IsLogOf : ModelsAsked → ℕ → List ℕ → Type 0
IsLogOf a count name = (n : ℕ) × (0 < n) × (n ≤ count) × (name ≡ log_name a.base n)

-- every file is as before but for the text of all models and the logs of so many entries
pub record KeepsOthers (a : ModelsAsked) (count : ℕ) (before after : Option Files) : Type 0 where
  pub told : IsTold before ↔ IsTold after
  pub others : (name : List ℕ) → name ≢ models_name a.base → (IsLogOf a count name → ⊥) → content after name ≡ content before name

-- the file is as before, or holds bytes that have P, where the files are told
abbrev pub IsTouchedAt : Option Files → Option Files → List ℕ → (List ℕ → Type 0) → Type 0
IsTouchedAt before after name P = (content after name ≡ content before name) ⊎ HasText after name P

-- The log of each entry, of which the first has this number, is as before, or a part of one over the bounded problem of some models.
abbrev pub LogsTouchedFrom : Option Files → Option Files → ModelsAsked → InstanceValue → ProblemValue → ℕ → List Entry → Type 0
LogsTouchedFrom before after a i p n [] = Unit {0}
LogsTouchedFrom before after a i p n (e ∷ entries) = IsTouchedAt before after (log_name a.base n) (IsPartOfSearch p (problem_vector i e.costs)) × LogsTouchedFrom before after a i p (n + 1) entries

-- ---- the answers

-- IN and LIST are there, and P holds of the instance, its normal form and the entries.
pub record OfEntries (files : Option Files) (a : ModelsAsked) (P : InstanceValue → ProblemValue → List Entry → Type 0) : Type 0 where
  pub instance : InstanceValue
  pub entries : List Entry
  pub problem : ProblemValue
  pub posed : IsPosed files a instance entries problem
  pub holds : P instance problem entries

-- LIST has an entry n, so that its log is written
abbrev pub IsLogWritten : ModelsAsked → Option Files → ℕ → Type 0
IsLogWritten a files n = OfEntries files a (λ i p entries. (0 < n) × (n ≤ length entries))

-- it reads IN and LIST, begins and appends to these logs and the text of all models, and says something
abbrev pub models_calls : ModelsAsked → List Call
models_calls a =
    reading a.input ∷ reading a.list ∷ beginning_each (log_name a.base) (IsLogWritten a) ∷ appending_each (log_name a.base) (IsLogWritten a)
    ∷ beginning (models_name a.base) ∷ appending (models_name a.base) ∷ saying ∷ []

-- The text of all models was written, and the models of each entry are representatives of its vector, as many as are asked for or all; and
-- the log of these shows it. Each other log is as before, or a part of one.
pub record AreWritten (before after : Option Files) (a : ModelsAsked) (i : InstanceValue) (p : ProblemValue) (entries : List Entry) : Type 0 where
  pub reps : List Reps
  pub text : IsWhole after (models_name a.base) (models_text reps)
  pub each : AreRightFrom after a i p 1 entries reps
  pub logs : LogsTouchedFrom before after a i p 1 entries
  pub others : KeepsOthers a (length entries) before after

-- Models: so it is of as many entries.
pub record AreListed (before after : View) (a : ModelsAsked) (count : ℕ) : Type 0 where
  pub written : OfEntries before.files a (λ i p entries. AreWritten before.files after.files a i p entries × (length entries ≡ count))
  pub said : after.said ≡ followed before.said (said_of (Models count))

-- the same, and a prefix of that was said
pub record ArePartlySaid (before after : View) (a : ModelsAsked) (count : ℕ) : Type 0 where
  pub written : OfEntries before.files a (λ i p entries. AreWritten before.files after.files a i p entries × (length entries ≡ count))
  pub said : IsPartlyFollowed before.said after.said (said_of (Models count))

-- the text of all models is as before, or a prefix of that of representatives
abbrev pub IsTextTouched : Option Files → Option Files → ModelsAsked → InstanceValue → List Entry → Type 0
IsTextTouched before after a i entries =
    IsTouchedAt before after (models_name a.base) (λ bytes. (reps : List Reps) × AllZip (λ e r. AreReps i e.costs a.most r.all r.models) entries reps × IsPrefixOf bytes (models_text reps))

-- Each log is as before, or a part of one; the text of all models is as before, or a prefix of one.
pub record AreTouched (before after : Option Files) (a : ModelsAsked) (i : InstanceValue) (p : ProblemValue) (entries : List Entry) : Type 0 where
  pub logs : LogsTouchedFrom before after a i p 1 entries
  pub text : IsTextTouched before after a i entries
  pub others : KeepsOthers a (length entries) before after

-- nothing was said, and that is so
pub record AreLeft (before after : View) (a : ModelsAsked) : Type 0 where
  pub touched : OfEntries before.files a (AreTouched before.files after.files a)
  pub said : after.said ≡ before.said

-- NoMemory and ShelfFailed: how far the command came.
abbrev pub AreListedPartly : View → View → ModelsAsked → Type 0
AreListedPartly before after a = (after ≡ before) ⊎ (AreLeft before after a ⊎ ((count : ℕ) × ArePartlySaid before after a count))

-- the bytes are a log of as many lines as it may hold, over the bounded problem of some models
abbrev pub IsFullLog : ProblemValue → List ℤ → List ℕ → Type 0
IsFullLog p us bytes = OfBounded p us (λ q. (lines : List Line) × SpellsLog bytes lines × (length lines ≡ 2 ^ 61) × ((s : StateValue) × IsReplay q lines s))

-- entry e has this number, from 1 on
abbrev pub IsEntryOf : List Entry → ℕ → Entry → Type 0
IsEntryOf entries n e = (first : List Entry) × (later : List Entry) × (entries ≡ first ++ e ∷ later) × (length first + 1 ≡ n)

-- the log of some entry is full
abbrev pub HasFullLog : Option Files → ModelsAsked → InstanceValue → ProblemValue → List Entry → Type 0
HasFullLog files a i p entries = (n : ℕ) × (e : Entry) × IsEntryOf entries n e × HasText files (log_name a.base n) (IsFullLog p (problem_vector i e.costs))

-- LogFull: the log of an entry holds the header and 2^61 lines, each legal where it stands.
pub record IsLogFull (before after : View) (a : ModelsAsked) : Type 0 where
  pub touched : OfEntries before.files a (λ i p entries. AreTouched before.files after.files a i p entries × HasFullLog after.files a i p entries)
  pub said : after.said ≡ before.said

-- The table.
abbrev pub ModelsTable : ModelsAsked → Status → View → View → Type 0
ModelsTable a (Models count) before after = AreListed before after a count
ModelsTable a (LogFull lines) before after = (lines ≡ 2 ^ 61) × IsLogFull before after a
ModelsTable a NoMemory before after = AreListedPartly before after a
ModelsTable a ShelfFailed before after = AreListedPartly before after a
ModelsTable a status before after = ListTable a status before after

-- it answers so, and warns of nothing
abbrev pub ModelsRuns : ModelsAsked → Status → World → World → Type 0
ModelsRuns a = Runs (ModelsTable a) (models_calls a)

-- ---- where it completes

-- IN spells an instance, and LIST is no larger than it may be and that of right entries
pub record AreListable (a : ModelsAsked) (files : Option Files) : Type 0 where
  pub text : List ℕ
  pub there : content files a.input ≡ Some text
  pub instance : InstanceValue
  pub spelled : IsTextOf a.format instance text
  pub listed : List ℕ
  pub list_there : content files a.list ≡ Some listed
  pub list_taken : length listed < 2 ^ 32
  pub entries : List Entry
  pub list_spelled : Spells listed true entries
  pub right : IsRightList instance entries

-- the models were written, or a log is full
abbrev pub AreGathered : Status → Type 0
AreGathered (Models count) = Unit {0}
AreGathered (LogFull lines) = Unit {0}
AreGathered status = ⊥

-- Where that is so and no own call failed, the models are written, or a log is full, unless memory is wanted.
abbrev pub ModelsCompletes : ModelsAsked → Status → World → World → Type 0
ModelsCompletes a = Completes (AreListable a) (λ files are status. AreGathered status) (models_calls a)
