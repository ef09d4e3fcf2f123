-- The answers of `solve IN LIST LOG [--search S] [--turns T] [--learn N] [--log-version V] [--harden] [--boost]`, a record for each. None
-- of them tells which search it was.
use Rattle.std.specs.Prelude.{◌≡◌, ◌↔◌, ◌⊎◌, ℕ, ◌^◌, true, false, List, ◌∷◌, ◌==◌, if◌then◌else◌, length, Option, Some}
use Rattle.scut_base.specs.Files.{Files, content, with_file, IsTouched}
use Rattle.scut_base.specs.World.{World}
use Rattle.front_set.specs.declared.entry.Entry.{Entry}
use Rattle.front_set.specs.ListText.{list_text}
use Rattle.instance.specs.Shape.{InstanceValue}
use Rattle.instance.specs.ParetoFront.{IsFront}
use Rattle.instance_normal.specs.NormalForm.{IsNormalFormOf}
use Rattle.pb_lin.specs.Problem.{ProblemValue}
use Rattle.proof_laws.specs.declared.line.Line.{Line}
use Rattle.proof_text.specs.LogText.{SpellsLog}
use Rattle.proof_text.specs.Versions.{first_of}
use Rattle.log_checker.specs.Accepted.{IsAccepted}
use Rattle.certified_front.specs.Certified.{CoversLogged, IsEnding}
use Rattle.certified_front.specs.Planning.{FollowsPlan}
use Rattle.certified_front.specs.declared.ending.Ending.{Ending}
use Rattle.certified_front.specs.declared.ending.Ending.TheVariants.{Complete as EndingComplete, Incomplete as EndingIncomplete}
use Rattle.command_base.specs.Answering.{Call, Completes, Runs, appending, beginning, reading}
use Rattle.command_base.specs.Causes.{HasText, IsRefused}
use Rattle.command_base.specs.InputTable.{InputTable}
use Rattle.command_base.specs.InstanceFile.{IsTextOf}
use Rattle.command_base.specs.ListSizes.{HasNoModel}
use Rattle.command_base.specs.Views.{View}
use Rattle.command_base.specs.declared.status.Status.{Status}
use Rattle.command_base.specs.declared.status.Status.TheVariants.{Complete, Incomplete, Usage, LogFull, NoMemory, ShelfFailed}
use Rattle.command_solve.specs.Listing.{IsListPartlySaid, IsListUnsaid, IsListed, is_complete, list_calls}
use Rattle.proof_text.specs.LogParts.{IsFull, IsPartOfLog}
use Rattle.command_solve.specs.TurnDigits.{takes}
use Rattle.command_solve.specs.Words.{SolveAsked}

-- it reads IN, begins and appends to LOG and LIST, and says something
abbrev pub solve_calls : SolveAsked → List Call
solve_calls a = reading a.input ∷ beginning a.log ∷ appending a.log ∷ list_calls a.list

-- ---- what is solved, and what is found

-- the search that is asked for takes the instance: only that for two objectives, alone or in turns, wants some number of them
abbrev pub HasSearch : SolveAsked → InstanceValue → Type 0
HasSearch a i = takes a.search a.turns (length i.objectives) ≡ true

-- how many searches can take turns at the instance: the third wants two objectives
abbrev pub searches_for : InstanceValue → ℕ
searches_for i = if length i.objectives == 2 then 3 else 2

-- IN spells the instance, which the search that is asked for takes, and the problem is its normal form
pub record IsProblemOf (files : Option Files) (a : SolveAsked) (i : InstanceValue) (p : ProblemValue) : Type 0 where
  pub text : HasText files a.input (IsTextOf a.format i)
  pub search : HasSearch a i
  pub normal : IsNormalFormOf i p

-- What a search has found: a list of models that cover what the lines of the log have logged, and how it has ended. The log
-- is one of the version that is asked for, and its lines follow the plan.
pub record IsFound (files : Option Files) (a : SolveAsked) (i : InstanceValue) (entries : List Entry) (log : List ℕ) (how : Ending) : Type 0 where
  pub problem : ProblemValue
  pub of_file : IsProblemOf files a i problem
  pub lines : List Line
  pub spelled : SpellsLog log lines
  pub first : spelled.first ≡ first_of a.version problem
  pub planned : FollowsPlan a.plan problem lines how
  pub covers : CoversLogged i problem lines entries
  pub ending : IsEnding a.limit problem lines how

-- LOG holds these bytes besides
abbrev pub with_log : View → SolveAsked → List ℕ → View
with_log v a proof = record { files = with_file v.files a.log proof; said = v.said }

-- ---- the answers

-- Complete: LIST holds the list text of the front of IN's instance, and LOG a log that is accepted with it, of the version
-- that is asked for, whose lines follow the plan. The size is 0 exactly where the instance has no model.
pub record IsCertified (before after : View) (a : SolveAsked) (size : ℕ) : Type 0 where
  pub instance : InstanceValue
  pub text : HasText before.files a.input (IsTextOf a.format instance)
  pub search : HasSearch a instance
  pub entries : List Entry
  pub front : IsFront instance entries
  pub counted : length entries ≡ size
  pub empty : (size ≡ 0) ↔ HasNoModel instance
  pub proof : List ℕ
  pub accepted : IsAccepted instance (list_text true entries) proof
  pub first : accepted.proof.spelled.first ≡ first_of a.version accepted.problem
  pub planned : FollowsPlan a.plan accepted.problem accepted.proof.lines EndingComplete
  pub listed : IsListed a.list (list_text true entries) (Complete size) (with_log before a proof) after

-- Incomplete: N was given, LOG has earned so many learned clauses, and one more could follow; LIST has models that cover
-- what LOG has logged.
pub record IsUnfinished (before after : View) (a : SolveAsked) (size learned : ℕ) : Type 0 where
  pub instance : InstanceValue
  pub entries : List Entry
  pub proof : List ℕ
  pub found : IsFound before.files a instance entries proof (EndingIncomplete learned)
  pub counted : length entries ≡ size
  pub listed : IsListed a.list (list_text (is_complete (EndingIncomplete learned)) entries) (Incomplete size learned) (with_log before a proof) after

-- LOG is as before, or holds a part of a log of the version that is asked for; nothing was said.
pub record IsLogTouched (before after : View) (a : SolveAsked) : Type 0 where
  pub instance : InstanceValue
  pub problem : ProblemValue
  pub of_file : IsProblemOf before.files a instance problem
  pub files : IsTouched before.files after.files a.log (IsPartOfLog a.version problem)
  pub said : after.said ≡ before.said

-- LOG holds what a search has found, and LIST is as before, or holds a prefix of its text; or it is whole, and a prefix of
-- the line was said.
pub record IsListTouched (before after : View) (a : SolveAsked) : Type 0 where
  pub instance : InstanceValue
  pub entries : List Entry
  pub proof : List ℕ
  pub ending : Ending
  pub found : IsFound before.files a instance entries proof ending
  pub listed : IsListUnsaid a.list (list_text (is_complete ending) entries) (with_log before a proof) after
      ⊎ IsListPartlySaid a.list (list_text (is_complete ending) entries) (length entries) ending (with_log before a proof) after

-- NoMemory and ShelfFailed: how far the command came.
abbrev pub IsSolvedPartly : View → View → SolveAsked → Type 0
IsSolvedPartly before after a = (after ≡ before) ⊎ (IsLogTouched before after a ⊎ IsListTouched before after a)

-- LogFull: LOG holds the header of that version and 2^61 lines that a log can spell, each legal where it stands; LIST is as before.
pub record IsLogFull (before after : View) (a : SolveAsked) : Type 0 where
  pub instance : InstanceValue
  pub problem : ProblemValue
  pub of_file : IsProblemOf before.files a instance problem
  pub full : IsFull before.files after.files problem a.log a.version
  pub said : after.said ≡ before.said

-- Usage: the search that is asked for doesn't take IN's instance.
abbrev pub HasOtherObjectives : SolveAsked → List ℕ → Type 0
HasOtherObjectives a text = (i : InstanceValue) × IsTextOf a.format i text × (takes a.search a.turns (length i.objectives) ≡ false)

-- The table.
abbrev pub SolveTable : SolveAsked → Status → View → View → Type 0
SolveTable a (Complete size) before after = IsCertified before after a size
SolveTable a (Incomplete size learned) before after = IsUnfinished before after a size learned
SolveTable a (LogFull lines) before after = (lines ≡ 2 ^ 61) × IsLogFull before after a
SolveTable a Usage before after = IsRefused before after a.input (HasOtherObjectives a)
SolveTable a NoMemory before after = IsSolvedPartly before after a
SolveTable a ShelfFailed before after = IsSolvedPartly before after a
SolveTable a status before after = InputTable a.format a.input status before after

-- it answers so, and warns of nothing
abbrev pub SolveRuns : SolveAsked → Status → World → World → Type 0
SolveRuns a = Runs (SolveTable a) (solve_calls a)

-- ---- where it completes

-- IN spells an instance
pub record IsSpelled (a : SolveAsked) (files : Option Files) : Type 0 where
  pub text : List ℕ
  pub there : content files a.input ≡ Some text
  pub instance : InstanceValue
  pub spelled : IsTextOf a.format instance text

-- the search has ended, or the log is full
abbrev pub IsSearchEnd : Option ℕ → Status → Type 0
IsSearchEnd limit (Complete size) = Unit {0}
IsSearchEnd (Some n) (Incomplete size learned) = Unit {0}
IsSearchEnd limit (LogFull lines) = Unit {0}
IsSearchEnd limit status = ⊥

-- so it is where the search that is asked for takes the instance, and else the end is Usage
pub record IsSolveEnd (a : SolveAsked) (i : InstanceValue) (status : Status) : Type 0 where
  pub searched : HasSearch a i → IsSearchEnd a.limit status
  pub usage : ¬ (HasSearch a i) → status ≡ Usage

-- Where IN spells an instance and no own call failed, that is so, unless memory is wanted.
abbrev pub SolveCompletes : SolveAsked → Status → World → World → Type 0
SolveCompletes a = Completes (IsSpelled a) (λ files spelled. IsSolveEnd a spelled.instance) (solve_calls a)
