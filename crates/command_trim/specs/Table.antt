-- The answers of `trim IN LIST LOG NEW`, a record for each that isn't one of `check IN LIST LOG`.
use Rattle.std.specs.Prelude.{◌≡◌, ℕ, ◌⊎◌, List, [], ◌∷◌, Option}
use Rattle.scut_base.specs.Files.{Files, followed, with_file, IsPartlyFollowed, IsPrefixOf, IsTouched}
use Rattle.scut_base.specs.World.{World}
use Rattle.log_checker.specs.Accepted.{IsAccepted}
use Rattle.command_base.specs.Answering.{Call, Completes, Runs, appending, beginning, reading, saying}
use Rattle.command_base.specs.Messages.{said_of}
use Rattle.command_base.specs.Views.{View}
use Rattle.command_base.specs.declared.status.Status.{Status}
use Rattle.command_base.specs.declared.status.Status.TheVariants.{Accepted, NoMemory, ShelfFailed, Trimmed}
use Rattle.command_check.specs.Table.{AreCheckable, CheckTable, OfLog}
use Rattle.command_trim.specs.TrimmedText.{IsTrimmedText}
use Rattle.command_trim.specs.Words.{TrimAsked, check_of}

-- it reads IN, LIST and LOG, begins NEW and appends to it, and says something
abbrev pub trim_calls : TrimAsked → List Call
trim_calls a = reading a.input ∷ reading a.list ∷ reading a.log ∷ beginning a.output ∷ appending a.output ∷ saying ∷ []

-- the text is that of LOG's trimmed lines, so many of so many, and LOG is accepted with LIST for the instance that IN spells
abbrev pub IsTextOf : Option Files → TrimAsked → List ℕ → ℕ → ℕ → Type 0
IsTextOf files a text kept total = OfLog files (check_of a) (IsTrimmedText kept total text)

-- ---- the answers

-- NEW holds that text, and no other file has changed.
pub record IsWritten (before after : Option Files) (a : TrimAsked) (kept total : ℕ) : Type 0 where
  pub text : List ℕ
  pub trimmed : IsTextOf before a text kept total
  pub files : after ≡ with_file before a.output text

-- Trimmed: list and log are accepted, and NEW holds the trimmed lines.
pub record IsTrimmed (before after : View) (a : TrimAsked) (kept total : ℕ) : Type 0 where
  pub written : IsWritten before.files after.files a kept total
  pub said : after.said ≡ followed before.said (said_of (Trimmed kept total))

-- the same, and a prefix of that was said
pub record IsPartlySaid (before after : View) (a : TrimAsked) : Type 0 where
  pub kept : ℕ
  pub total : ℕ
  pub written : IsWritten before.files after.files a kept total
  pub said : IsPartlyFollowed before.said after.said (said_of (Trimmed kept total))

-- List and log are accepted, and NEW is as before, or holds a prefix of the text of the trimmed lines; nothing was said.
pub record IsPartlyWritten (before after : View) (a : TrimAsked) : Type 0 where
  pub kept : ℕ
  pub total : ℕ
  pub text : List ℕ
  pub trimmed : IsTextOf before.files a text kept total
  pub files : IsTouched before.files after.files a.output (λ bytes. IsPrefixOf bytes text)
  pub said : after.said ≡ before.said

-- NoMemory and ShelfFailed: how far the command came.
abbrev pub IsCutOff : View → View → TrimAsked → Type 0
IsCutOff before after a = (after ≡ before) ⊎ (IsPartlyWritten before after a ⊎ IsPartlySaid before after a)

-- The table. List and log are refused as by `check`, and so are files that are too large or an instance that isn't read.
abbrev pub TrimTable : TrimAsked → Status → View → View → Type 0
TrimTable a (Trimmed kept total) before after = IsTrimmed before after a kept total
TrimTable a Accepted before after = ⊥
TrimTable a NoMemory before after = IsCutOff before after a
TrimTable a ShelfFailed before after = IsCutOff before after a
TrimTable a status before after = CheckTable (check_of a) status before after

-- it answers so, and warns of nothing
abbrev pub TrimRuns : TrimAsked → Status → World → World → Type 0
TrimRuns a = Runs (TrimTable a) (trim_calls a)

-- ---- where it completes

-- the three files are there, IN spells an instance, no file is too large, and list and log are accepted
pub record AreTrimmable (a : TrimAsked) (files : Option Files) : Type 0 where
  pub checkable : AreCheckable (check_of a) files
  pub accepted : IsAccepted checkable.instance checkable.listed checkable.logged

abbrev pub IsTrimEnd : Status → Type 0
IsTrimEnd status = (kept : ℕ) × (total : ℕ) × (status ≡ Trimmed kept total)

-- Where that is so and no own call failed, the log is trimmed, unless memory is wanted.
abbrev pub TrimCompletes : TrimAsked → Status → World → World → Type 0
TrimCompletes a = Completes (AreTrimmable a) (λ files are status. IsTrimEnd status) (trim_calls a)
