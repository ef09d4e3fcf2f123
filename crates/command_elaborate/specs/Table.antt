-- The answers of `elaborate IN LOG NEW`, a record for each.
use Rattle.std.specs.Prelude.{◌≡◌, ℕ, zero, ◌+◌, ◌≤◌, ◌^◌, ◌⊎◌, List, [], ◌∷◌, ◌++◌, length, Option, Some, None}
use Rattle.scut_base.specs.Files.{Files, content, followed, with_file, IsPartlyFollowed, IsPrefixOf, IsTouched}
use Rattle.scut_base.specs.World.{World}
use Rattle.instance.specs.declared.fault.InstanceLimit.TheVariants.{Bytes}
use Rattle.instance.specs.Shape.{InstanceValue}
use Rattle.instance_normal.specs.NormalForm.{IsNormalFormOf}
use Rattle.pb_lin.specs.Problem.{ProblemValue}
use Rattle.proof_laws.specs.State.{StateValue, start}
use Rattle.proof_laws.specs.declared.line.Line.{Line}
use Rattle.proof_laws.specs.declared.why.Why.{Why}
use Rattle.proof_laws.specs.declared.why.Why.TheVariants.{Syntax}
use Rattle.proof_lines.specs.declared.spelling.Spelling.TheVariants.{Plain}
use Rattle.proof_text.specs.LogText.{BeginsWith, SpellsLog}
use Rattle.proof_text.specs.Versions.{log_text}
use Rattle.log_checker.specs.declared.fault.CheckFault.TheVariants.{Refused as LineRefused}
use Rattle.command_elaborate.specs.Loose.{IsLooselyRefused, IsLooseReplay}
use Rattle.command_elaborate.specs.Reasons.{Elaborates}
use Rattle.command_base.specs.Answering.{Call, Completes, Runs, appending, beginning, reading, saying}
use Rattle.command_base.specs.Causes.{HasText, IsRefused}
use Rattle.command_base.specs.InputTable.{InputTable}
use Rattle.command_base.specs.Inputs.{IsInput}
use Rattle.command_base.specs.InstanceFile.{IsTextOf}
use Rattle.command_base.specs.LogLines.{IsLargeAfter, IsLogOf, IsWrongAfter, before_limit}
use Rattle.command_base.specs.Messages.{said_of}
use Rattle.command_base.specs.Views.{View}
use Rattle.command_base.specs.declared.status.Status.{Status}
use Rattle.command_base.specs.declared.status.Status.TheVariants.{Done, Refused, TooLarge, NoMemory, ShelfFailed}
use Rattle.command_elaborate.specs.Words.{ElaborateAsked}

-- it reads IN and LOG, begins NEW and appends to it, and says something
abbrev pub elaborate_calls : ElaborateAsked → List Call
elaborate_calls a = reading a.input ∷ reading a.log ∷ beginning a.output ∷ appending a.output ∷ saying ∷ []

-- the text of the lines that were answered, in version 1
abbrev pub elaborated : List Line → List ℕ
elaborated news = log_text Plain news

-- ---- what LOG holds

-- elaborating the lines answers the new ones, and refuses none
abbrev pub AreAnswered : ProblemValue → List Line → List Line → Type 0
AreAnswered p lines news = (t : StateValue) × Elaborates p (start p) lines news t None

-- a log that is no larger than it may be spells these lines, which are answered so
pub record IsTakenLog (p : ProblemValue) (lines news : List Line) (log : List ℕ) : Type 0 where
  pub spelled : IsLogOf lines log
  pub answered : AreAnswered p lines news

-- after these lines, which are answered so, line k of the log is the text of none
pub record IsSyntaxAfter (p : ProblemValue) (lines news : List Line) (k : ℕ) (why : Why) (log : List ℕ) : Type 0 where
  pub syntax : why ≡ Syntax
  pub wrong : IsWrongAfter lines k log
  pub answered : AreAnswered p lines news

-- after these lines, which are answered so, comes line k of the bytes, which is loosely refused for this reason
pub record IsLineRefused (p : ProblemValue) (lines news : List Line) (k : ℕ) (why : Why) (bytes : List ℕ) : Type 0 where
  pub state : StateValue
  pub answered : Elaborates p (start p) lines news state None
  pub line : Line
  pub refused : IsLooselyRefused p state line why
  pub rest : List ℕ
  pub there : BeginsWith bytes (lines ++ line ∷ []) rest
  pub number : k ≡ length lines + 2

-- Line k of the log is the first that is the text of none, or is loosely refused; a line beyond the limit is not looked at.
abbrev pub IsRefusedAfter : ProblemValue → List Line → List Line → ℕ → Why → List ℕ → Type 0
IsRefusedAfter p lines news k why log = IsSyntaxAfter p lines news k why log ⊎ IsLineRefused p lines news k why (before_limit log)

-- The log is too large; before the limit no line is refused, and these are the whole ones, which are answered so.
pub record IsCutAfter (p : ProblemValue) (lines news : List Line) (log : List ℕ) : Type 0 where
  pub large : IsLargeAfter lines log
  pub answered : AreAnswered p lines news

-- LOG begins with these lines, or there are none; and they are answered so
pub record AreRead (files : Option Files) (log : List ℕ) (p : ProblemValue) (lines news : List Line) : Type 0 where
  pub read : (lines ≡ []) ⊎ HasText files log (λ bytes. (rest : List ℕ) × BeginsWith bytes lines rest)
  pub answered : AreAnswered p lines news

-- ---- the answers

-- LOG has P with some lines and what is answered of them, and NEW holds the header and the latter.
pub record IsWritten (before after : Option Files) (a : ElaborateAsked) (P : ProblemValue → List Line → List Line → List ℕ → Type 0) : Type 0 where
  pub instance : InstanceValue
  pub problem : ProblemValue
  pub of_file : IsInput before a.format a.input instance problem
  pub lines : List Line
  pub news : List Line
  pub log : HasText before a.log (P problem lines news)
  pub files : after ≡ with_file before a.output (elaborated news)
  pub same : SpellsLog (elaborated news) news

-- Done: LOG spells some lines, and NEW spells those that are answered of them.
pub record IsElaborated (before after : View) (a : ElaborateAsked) : Type 0 where
  pub written : IsWritten before.files after.files a IsTakenLog
  pub said : after.said ≡ followed before.said (said_of Done)

-- the same, and a prefix of that was said
pub record IsPartlySaid (before after : View) (a : ElaborateAsked) : Type 0 where
  pub written : IsWritten before.files after.files a IsTakenLog
  pub said : IsPartlyFollowed before.said after.said (said_of Done)

-- Refused: line k of LOG is, and NEW holds the header and what is answered of the lines before it.
pub record IsLogRefused (before after : View) (a : ElaborateAsked) (k : ℕ) (why : Why) : Type 0 where
  pub written : IsWritten before.files after.files a (λ p lines news. IsRefusedAfter p lines news k why)
  pub said : after.said ≡ before.said

-- TooLarge: LOG is, and NEW holds the header and what is answered of the lines that were read.
pub record IsLogLarge (before after : View) (a : ElaborateAsked) : Type 0 where
  pub written : IsWritten before.files after.files a IsCutAfter
  pub said : after.said ≡ before.said

-- NEW is as before, or holds a prefix of the header and of what is answered of lines that LOG begins with; nothing was said.
pub record IsNewTouched (before after : View) (a : ElaborateAsked) : Type 0 where
  pub instance : InstanceValue
  pub problem : ProblemValue
  pub of_file : IsInput before.files a.format a.input instance problem
  pub lines : List Line
  pub news : List Line
  pub read : AreRead before.files a.log problem lines news
  pub files : IsTouched before.files after.files a.output (λ bytes. IsPrefixOf bytes (elaborated news))
  pub said : after.said ≡ before.said

-- NoMemory and ShelfFailed: how far the command came.
abbrev pub IsElaboratedPartly : View → View → ElaborateAsked → Type 0
IsElaboratedPartly before after a = (after ≡ before) ⊎ (IsNewTouched before after a ⊎ IsPartlySaid before after a)

-- The table. No two causes of a refusal hold of the same files.
abbrev pub ElaborateTable : ElaborateAsked → Status → View → View → Type 0
ElaborateTable a Done before after = IsElaborated before after a
ElaborateTable a (Refused (LineRefused k why)) before after = IsLogRefused before after a k why
ElaborateTable a (TooLarge zero Bytes) before after = IsRefused before after a.input (λ text. 2 ^ 32 ≤ length text) ⊎ IsLogLarge before after a
ElaborateTable a NoMemory before after = IsElaboratedPartly before after a
ElaborateTable a ShelfFailed before after = IsElaboratedPartly before after a
ElaborateTable a status before after = InputTable a.format a.input status before after

-- it answers so, and warns of nothing
abbrev pub ElaborateRuns : ElaborateAsked → Status → World → World → Type 0
ElaborateRuns a = Runs (ElaborateTable a) (elaborate_calls a)

-- ---- where it completes

-- the lines lead loosely to some state
abbrev pub IsLooseProof : ProblemValue → List Line → Type 0
IsLooseProof p lines = (t : StateValue) × IsLooseReplay p lines t

-- IN spells an instance, and LOG is no larger than it may be and spells lines of which none is loosely refused over its normal form
pub record AreElaborable (a : ElaborateAsked) (files : Option Files) : Type 0 where
  pub text : List ℕ
  pub there : content files a.input ≡ Some text
  pub instance : InstanceValue
  pub spelled : IsTextOf a.format instance text
  pub logged : List ℕ
  pub log_there : content files a.log ≡ Some logged
  pub lines : List Line
  pub log_spelled : IsLogOf lines logged
  pub loosely : (i : InstanceValue) (p : ProblemValue) → IsTextOf a.format i text → IsNormalFormOf i p → IsLooseProof p lines

-- Where that is so and no own call failed, the log is elaborated, unless memory is wanted.
abbrev pub ElaborateCompletes : ElaborateAsked → Status → World → World → Type 0
ElaborateCompletes a = Completes (AreElaborable a) (λ files are status. status ≡ Done) (elaborate_calls a)
