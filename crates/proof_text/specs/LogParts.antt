-- What a log holds that was begun and isn't finished.
use Rattle.std.specs.Prelude.{◌≡◌, ◌⊎◌, ℕ, ◌^◌, List, [], length, Option}
use Rattle.scut_base.specs.Files.{Files, IsPrefixOf, IsTouched, with_file}
use Rattle.scut_base.specs.Faults.{Faults, WritingFailed}
use Rattle.pb_lin.specs.Problem.{ProblemValue}
use Rattle.proof_laws.specs.State.{StateValue}
use Rattle.proof_laws.specs.Replay.{IsReplay}
use Rattle.proof_laws.specs.declared.line.Line.{Line}
use Rattle.proof_rules.specs.declared.recorder.RecordFault.{RecordFault}
use Rattle.proof_rules.specs.declared.recorder.RecordFault.TheVariants.{Failed, Full, NoMemory}
use Rattle.proof_text.specs.LogFile.{IsPartOfNext}
use Rattle.proof_text.specs.LogText.{BeginsWith, SpellsLog}
use Rattle.proof_text.specs.Versions.{first_of, header_line}
use Rattle.proof_text.specs.declared.version.LogVersion.{LogVersion}

-- the header of this version, lines that a log can spell and that are legal, each where it stands, and then a prefix of one more
pub record IsBrokenLog (version : LogVersion) (p : ProblemValue) (bytes : List ℕ) : Type 0 where
  pub lines : List Line
  pub part : List ℕ
  pub begins : BeginsWith bytes lines part
  pub first : begins.first ≡ first_of version p
  pub replay : (s : StateValue) × IsReplay p lines s
  pub next : (part ≡ []) ⊎ IsPartOfNext p begins.first lines part

-- the bytes are a prefix of that header, or such a log
abbrev pub IsPartOfLog : LogVersion → ProblemValue → List ℕ → Type 0
IsPartOfLog version p bytes = IsPrefixOf bytes (header_line (first_of version p)) ⊎ IsBrokenLog version p bytes

-- the log is one of this version, of as many lines as it may hold, all of them legal
pub record IsFull (old new : Option Files) (p : ProblemValue) (log : List ℕ) (version : LogVersion) : Type 0 where
  pub proof : List ℕ
  pub lines : List Line
  pub spelled : SpellsLog proof lines
  pub first : spelled.first ≡ first_of version p
  pub full : length lines ≡ 2 ^ 61
  pub replay : (s : StateValue) × IsReplay p lines s
  pub files : new ≡ with_file old log proof

-- why a log isn't finished, and what it holds then
abbrev pub IsLogStopped : RecordFault → Option Files → Option Files → ProblemValue → List ℕ → LogVersion → Faults → Faults → Type 0
IsLogStopped Full old new p log version before after = IsFull old new p log version
IsLogStopped NoMemory old new p log version before after = IsTouched old new log (IsPartOfLog version p)
IsLogStopped Failed old new p log version before after = IsTouched old new log (IsPartOfLog version p) × WritingFailed before after log
