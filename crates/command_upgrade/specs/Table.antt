-- The answers of `upgrade IN LOG NEW`, a record for each.
use Rattle.std.specs.Prelude.{◌≡◌, ℕ, zero, ◌≤◌, ◌^◌, ◌⊎◌, List, [], ◌∷◌, length, Option, Some}
use Rattle.scut_base.specs.Files.{Files, content, followed, with_file, IsPartlyFollowed, IsPrefixOf, IsTouched}
use Rattle.scut_base.specs.World.{World}
use Rattle.instance.specs.declared.fault.InstanceLimit.TheVariants.{Bytes}
use Rattle.instance.specs.Shape.{InstanceValue}
use Rattle.pb_lin.specs.Problem.{ProblemValue}
use Rattle.proof_laws.specs.declared.line.Line.{Line}
use Rattle.proof_laws.specs.declared.why.Why.TheVariants.{Syntax}
use Rattle.proof_text.specs.LogText.{BeginsWith, SpellsLog}
use Rattle.proof_text.specs.Versions.{first_of, log_text}
use Rattle.proof_text.specs.declared.version.LogVersion.TheVariants.{Two}
use Rattle.log_checker.specs.declared.fault.CheckFault.TheVariants.{Refused as LineRefused}
use Rattle.command_base.specs.Answering.{Call, Completes, Runs, appending, beginning, reading, saying}
use Rattle.command_base.specs.Causes.{HasText, IsRefused}
use Rattle.command_base.specs.InputTable.{InputTable}
use Rattle.command_base.specs.Inputs.{IsInput}
use Rattle.command_base.specs.InstanceFile.{IsTextOf}
use Rattle.command_base.specs.LogLines.{IsLargeAfter, IsLogOf, IsWrongAfter}
use Rattle.command_base.specs.Messages.{said_of}
use Rattle.command_base.specs.Views.{View}
use Rattle.command_base.specs.declared.status.Status.{Status}
use Rattle.command_base.specs.declared.status.Status.TheVariants.{Done, Refused, TooLarge, NoMemory, ShelfFailed}
use Rattle.command_upgrade.specs.Words.{UpgradeAsked}

-- it reads IN and LOG, begins NEW and appends to it, and says something
abbrev pub upgrade_calls : UpgradeAsked → List Call
upgrade_calls a = reading a.input ∷ reading a.log ∷ beginning a.output ∷ appending a.output ∷ saying ∷ []

-- the text of the lines in version 2, over the rows of the problem
abbrev pub upgraded : ProblemValue → List Line → List ℕ
upgraded p lines = log_text (first_of Two p) lines

-- ---- what LOG holds

-- lines that LOG begins with, or none
abbrev pub AreRead : Option Files → UpgradeAsked → List Line → Type 0
AreRead files a lines = (lines ≡ []) ⊎ HasText files a.log (λ log. (rest : List ℕ) × BeginsWith log lines rest)

-- ---- the answers

-- LOG has P with some lines, and NEW holds the header of version 2 and these.
pub record IsWritten (before after : Option Files) (a : UpgradeAsked) (P : List Line → List ℕ → Type 0) : Type 0 where
  pub instance : InstanceValue
  pub problem : ProblemValue
  pub of_file : IsInput before a.format a.input instance problem
  pub lines : List Line
  pub log : HasText before a.log (P lines)
  pub files : after ≡ with_file before a.output (upgraded problem lines)
  pub same : SpellsLog (upgraded problem lines) lines

-- Done: LOG spells some lines, and NEW spells the same.
pub record IsUpgraded (before after : View) (a : UpgradeAsked) : Type 0 where
  pub written : IsWritten before.files after.files a IsLogOf
  pub said : after.said ≡ followed before.said (said_of Done)

-- the same, and a prefix of that was said
pub record IsPartlySaid (before after : View) (a : UpgradeAsked) : Type 0 where
  pub written : IsWritten before.files after.files a IsLogOf
  pub said : IsPartlyFollowed before.said after.said (said_of Done)

-- Refused: line k of LOG is wrong, and NEW holds the header and the lines before it.
pub record IsLogRefused (before after : View) (a : UpgradeAsked) (k : ℕ) : Type 0 where
  pub written : IsWritten before.files after.files a (λ lines. IsWrongAfter lines k)
  pub said : after.said ≡ before.said

-- TooLarge: LOG is, and NEW holds the header and the lines that were read.
pub record IsLogLarge (before after : View) (a : UpgradeAsked) : Type 0 where
  pub written : IsWritten before.files after.files a IsLargeAfter
  pub said : after.said ≡ before.said

-- NEW is as before, or holds a prefix of the header and of lines that LOG begins with; nothing was said.
pub record IsNewTouched (before after : View) (a : UpgradeAsked) : Type 0 where
  pub instance : InstanceValue
  pub problem : ProblemValue
  pub of_file : IsInput before.files a.format a.input instance problem
  pub lines : List Line
  pub read : AreRead before.files a lines
  pub files : IsTouched before.files after.files a.output (λ bytes. IsPrefixOf bytes (upgraded problem lines))
  pub said : after.said ≡ before.said

-- NoMemory and ShelfFailed: how far the command came.
abbrev pub IsUpgradedPartly : View → View → UpgradeAsked → Type 0
IsUpgradedPartly before after a = (after ≡ before) ⊎ (IsNewTouched before after a ⊎ IsPartlySaid before after a)

-- The table. No two causes of a refusal hold of the same files.
abbrev pub UpgradeTable : UpgradeAsked → Status → View → View → Type 0
UpgradeTable a Done before after = IsUpgraded before after a
UpgradeTable a (Refused (LineRefused k Syntax)) before after = IsLogRefused before after a k
UpgradeTable a (TooLarge zero Bytes) before after = IsRefused before after a.input (λ text. 2 ^ 32 ≤ length text) ⊎ IsLogLarge before after a
UpgradeTable a NoMemory before after = IsUpgradedPartly before after a
UpgradeTable a ShelfFailed before after = IsUpgradedPartly before after a
UpgradeTable a status before after = InputTable a.format a.input status before after

-- it answers so, and warns of nothing
abbrev pub UpgradeRuns : UpgradeAsked → Status → World → World → Type 0
UpgradeRuns a = Runs (UpgradeTable a) (upgrade_calls a)

-- ---- where it completes

-- IN spells an instance, and LOG is no larger than it may be and spells some lines
pub record AreUpgradable (a : UpgradeAsked) (files : Option Files) : Type 0 where
  pub text : List ℕ
  pub there : content files a.input ≡ Some text
  pub instance : InstanceValue
  pub spelled : IsTextOf a.format instance text
  pub logged : List ℕ
  pub log_there : content files a.log ≡ Some logged
  pub lines : List Line
  pub log_spelled : IsLogOf lines logged

-- Where that is so and no own call failed, the log is upgraded, unless memory is wanted.
abbrev pub UpgradeCompletes : UpgradeAsked → Status → World → World → Type 0
UpgradeCompletes a = Completes (AreUpgradable a) (λ files are status. status ≡ Done) (upgrade_calls a)
