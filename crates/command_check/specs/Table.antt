-- The answers of `check IN LIST LOG`, a record for each.
use Rattle.std.specs.Prelude.{◌≡◌, ℕ, zero, ◌<◌, ◌≤◌, ◌^◌, ◌⊎◌, true, List, [], ◌∷◌, length, Option, Some, ℤ}
use Rattle.scut_base.specs.Files.{Files, content, followed, IsPartlyFollowed}
use Rattle.scut_base.specs.World.{World}
use Rattle.front_set.specs.declared.entry.Entry.{Entry}
use Rattle.front_set.specs.ListText.{list_text}
use Rattle.front_text.specs.Spelling.{Spells}
use Rattle.instance.specs.declared.fault.InstanceLimit.TheVariants.{Bytes}
use Rattle.instance.specs.Shape.{InstanceValue}
use Rattle.instance.specs.ParetoFront.{IsFront}
use Rattle.instance_normal.specs.NormalForm.{IsNormalFormOf}
use Rattle.pb_lin.specs.Problem.{ProblemValue}
use Rattle.proof_laws.specs.declared.why.Why.{Why}
use Rattle.log_checker.specs.declared.fault.CheckFault.TheVariants.{Refused as LineRefused, ListRefused}
use Rattle.log_checker.specs.Accepted.{IsAccepted, IsRightList, problem_vectors}
use Rattle.log_checker.specs.ListFaults.{IsListFault}
use Rattle.log_checker.specs.LogFaults.{IsLogFault, IsWholeFault}
use Rattle.command_base.specs.Answering.{Call, Completes, Runs, reading, saying}
use Rattle.command_base.specs.Causes.{HasCauseIn, HasText}
use Rattle.command_base.specs.InputTable.{InputTable}
use Rattle.command_base.specs.Inputs.{OfInstance, OfList}
use Rattle.command_base.specs.InstanceFile.{IsTextOf}
use Rattle.command_base.specs.Messages.{said_of}
use Rattle.command_base.specs.Taking.{IsTakenFault, IsTooLarge}
use Rattle.command_base.specs.Views.{View}
use Rattle.command_base.specs.declared.status.Status.{Status}
use Rattle.command_base.specs.declared.status.Status.TheVariants.{Accepted, Refused, TooLarge, NoMemory, ShelfFailed}
use Rattle.command_check.specs.Words.{CheckAsked}

-- it reads IN, LIST and LOG, and says something
abbrev pub check_calls : CheckAsked → List Call
check_calls a = reading a.input ∷ reading a.list ∷ reading a.log ∷ saying ∷ []

-- ---- what the three files hold

-- IN spells an instance, LIST is no larger than it may be, LOG is there, and P holds of the three
abbrev pub OfLog : Option Files → CheckAsked → (InstanceValue → List ℕ → List ℕ → Type 0) → Type 0
OfLog files a P = OfList files a.format a.input a.list (λ i listed. HasText files a.log (P i listed))

-- the list is the text of the instance's front
abbrev pub IsFrontText : InstanceValue → List ℕ → Type 0
IsFrontText i listed = (entries : List Entry) × (listed ≡ list_text true entries) × IsFront i entries

-- The log is one that is taken, it is accepted with the list, and the list is that of the front.
pub record IsTakenAndAccepted (i : InstanceValue) (listed log : List ℕ) : Type 0 where
  pub taken : length log < 2 ^ 62
  pub accepted : IsAccepted i listed log
  pub front : IsFrontText i listed

-- The list is that of right entries, and P holds of the instance's normal form and of the entries' vectors.
pub record OfRightList (i : InstanceValue) (listed : List ℕ) (P : ProblemValue → List (List ℤ) → Type 0) : Type 0 where
  pub entries : List Entry
  pub spelled : Spells listed true entries
  pub right : IsRightList i entries
  pub problem : ProblemValue
  pub normal : IsNormalFormOf i problem
  pub holds : P problem (problem_vectors i entries)

-- line k of the log is refused, judged with these
abbrev pub IsLineFault : List ℕ → ℕ → Why → ProblemValue → List (List ℤ) → Type 0
IsLineFault log k why p vectors = IsTakenFault (IsWholeFault p vectors) (IsLogFault p vectors) log k why

-- the log is too large, judged with these
abbrev pub IsLargeLog : List ℕ → ProblemValue → List (List ℤ) → Type 0
IsLargeLog log p vectors = IsTooLarge (IsWholeFault p vectors) log

-- the first of the files that is too large: IN, LIST where IN spells an instance, LOG where the list is right
abbrev pub HasLargeFile : Option Files → CheckAsked → Type 0
HasLargeFile files a = HasText files a.input (λ text. 2 ^ 32 ≤ length text)
    ⊎ (OfInstance files a.format a.input (λ i. HasText files a.list (λ listed. 2 ^ 32 ≤ length listed))
    ⊎ OfLog files a (λ i listed log. OfRightList i listed (IsLargeLog log)))

-- ---- the answers

-- Accepted: LIST and LOG are accepted for the instance that IN spells, and LIST is the list of its front. No file has changed.
pub record IsAcceptedSaid (before after : View) (a : CheckAsked) : Type 0 where
  pub cause : OfLog before.files a IsTakenAndAccepted
  pub files : after.files ≡ before.files
  pub said : after.said ≡ followed before.said (said_of Accepted)

-- saying was cut off: list and log are accepted, and a prefix of that was said
pub record IsPartlyAccepted (before after : View) (a : CheckAsked) : Type 0 where
  pub cause : OfLog before.files a IsTakenAndAccepted
  pub said : IsPartlyFollowed before.said after.said (said_of Accepted)

-- NoMemory and ShelfFailed: no file has changed; something is said only where list and log are accepted.
pub record IsCutOff (before after : View) (a : CheckAsked) : Type 0 where
  pub files : after.files ≡ before.files
  pub said : (after.said ≡ before.said) ⊎ IsPartlyAccepted before after a

-- The table. No two causes of a refusal hold of the same files.
abbrev pub CheckTable : CheckAsked → Status → View → View → Type 0
CheckTable a Accepted before after = IsAcceptedSaid before after a
CheckTable a (Refused (LineRefused k why)) before after =
    HasCauseIn before after (OfLog before.files a (λ i listed log. OfRightList i listed (IsLineFault log k why)))
CheckTable a (Refused (ListRefused k why)) before after =
    HasCauseIn before after (OfList before.files a.format a.input a.list (λ i listed. IsListFault i listed k why))
CheckTable a (TooLarge zero Bytes) before after = HasCauseIn before after (HasLargeFile before.files a)
CheckTable a NoMemory before after = IsCutOff before after a
CheckTable a ShelfFailed before after = IsCutOff before after a
CheckTable a status before after = InputTable a.format a.input status before after

-- it answers so, and warns of nothing
abbrev pub CheckRuns : CheckAsked → Status → World → World → Type 0
CheckRuns a = Runs (CheckTable a) (check_calls a)

-- ---- where it completes

-- the three files are there, IN spells an instance, and no file is too large
pub record AreCheckable (a : CheckAsked) (files : Option Files) : Type 0 where
  pub text : List ℕ
  pub there : content files a.input ≡ Some text
  pub instance : InstanceValue
  pub spelled : IsTextOf a.format instance text
  pub listed : List ℕ
  pub list_there : content files a.list ≡ Some listed
  pub list_taken : length listed < 2 ^ 32
  pub logged : List ℕ
  pub log_there : content files a.log ≡ Some logged
  pub log_taken : length logged < 2 ^ 62

-- list and log were judged
abbrev pub IsJudged : Status → Type 0
IsJudged Accepted = Unit {0}
IsJudged (Refused fault) = Unit {0}
IsJudged status = ⊥

-- list and log were judged, and what is to be accepted was
abbrev pub IsCheckEnd : (a : CheckAsked) (files : Option Files) → AreCheckable a files → Status → Type 0
IsCheckEnd a files are status = IsJudged status × (IsAccepted are.instance are.listed are.logged → status ≡ Accepted)

-- Where that is so and no own call failed, list and log are judged, unless memory is wanted.
abbrev pub CheckCompletes : CheckAsked → Status → World → World → Type 0
CheckCompletes a = Completes (AreCheckable a) (IsCheckEnd a) (check_calls a)
