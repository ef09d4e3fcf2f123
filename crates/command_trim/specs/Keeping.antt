-- The lines of a log that are kept while they are judged; nothing of it has to be believed.
use Rattle.std.specs.Prelude.{◌≡◌, ℕ, ◌+◌, ◌<◌, ◌≤◌, ◌^◌, Bool, true, false, List, length, Option, Result, Ok, Err}
use Rattle.scut_base.specs.Files.{Files}
use Rattle.front_set.specs.declared.entry.Entry.{Entry}
use Rattle.instance.specs.Shape.{InstanceValue}
use Rattle.pb_lin.specs.Problem.{ProblemValue}
use Rattle.proof_laws.specs.State.{Fits}
use Rattle.proof_laws.specs.declared.line.Line.{Line}
use Rattle.proof_laws.specs.declared.why.Why.{Why}
use Rattle.proof_laws.specs.declared.why.Why.TheVariants.{Syntax}
use Rattle.proof_text.specs.LogText.{HoldsNoFurtherLine}
use Rattle.proof_text.specs.declared.fault.TextFault.{TextFault}
use Rattle.proof_text.specs.declared.fault.TextFault.TheVariants.{Syntax as SyntaxAt, NoMemory as TextMemory}
use Rattle.log_checker.specs.Accepted.{IsEndedProof, problem_vectors}
use Rattle.log_checker.specs.Judging.{IsUnderway}
use Rattle.log_checker.specs.LogFaults.{IsLogFault, IsWholeFault}
use Rattle.command_trim.specs.Marks.{made_by}
use Rattle.command_base.specs.Causes.{HasText}
use Rattle.command_base.specs.Inputs.{IsListed}
use Rattle.command_base.specs.Judging.{JudgedBy}
use Rattle.command_base.specs.declared.log_file.LineFault.{LineFault}
use Rattle.command_base.specs.declared.log_file.LineFault.TheVariants.{Refused, NoMemory}
use Rattle.command_trim.specs.Words.{TrimAsked}
use Rattle.command_trim.specs.declared.keeping.Keeper.{Keeper}

-- ---- what refuses lines

-- what a keeper judges by
abbrev pub kept_by : Keeper → JudgedBy
kept_by k = record { problem = k.problem.now; vectors = k.vectors.now }

-- a line is the first that is refused, by bytes that are there
abbrev pub whole_by : JudgedBy → List ℕ → ℕ → Why → Type 0
whole_by by bytes k why = IsWholeFault by.problem by.vectors bytes k why

-- a line is the first that is wrong with a log
abbrev pub every_by : JudgedBy → List ℕ → ℕ → Why → Type 0
every_by by bytes k why = IsLogFault by.problem by.vectors bytes k why

-- the bytes' first whole line that is refused; want of memory says nothing
abbrev pub IsWholeReason : JudgedBy → List ℕ → LineFault → Type 0
IsWholeReason by bytes (Refused k why) = whole_by by bytes k why
IsWholeReason by bytes NoMemory = Unit {0}

-- the bytes' first fault; want of memory says nothing
abbrev pub IsLogReason : JudgedBy → List ℕ → LineFault → Type 0
IsLogReason by bytes (Refused k why) = every_by by bytes k why
IsLogReason by bytes NoMemory = Unit {0}

-- why a text isn't read, as the fault of a line
abbrev pub fault_of : TextFault → LineFault
fault_of (SyntaxAt k) = Refused k Syntax
fault_of TextMemory = NoMemory

-- ---- a keeper

-- These bytes were fed. The lines that are kept are those that were given of them; each is legal where it stands, and they lead to
-- the state.
pub record IsKeeping (k : Keeper) (bytes : List ℕ) : Type 0 where
  pub underway : IsUnderway k.problem.now k.vectors.now k.reader k.state bytes k.lines
  pub fits : Fits k.problem.now k.state

-- it is so of some bytes
abbrev pub IsSound : Keeper → Type 0
IsSound k = (bytes : List ℕ) × IsKeeping k bytes

-- it was fed these bytes, and every whole line of them is kept
abbrev pub StandsFor : Keeper → List ℕ → Type 0
StandsFor k bytes = IsKeeping k bytes × HoldsNoFurtherLine bytes k.lines

-- a line more is kept, or there is none, or it is refused
abbrev pub KeepsNext : Keeper → List ℕ → Result Bool LineFault → Type 0
KeepsNext k bytes (Ok true) = IsKeeping k bytes
KeepsNext k bytes (Ok false) = StandsFor k bytes
KeepsNext k bytes (Err fault) = IsWholeReason (kept_by k) bytes fault

-- all whole lines are kept, or one is refused
abbrev pub KeepsLines : Keeper → List ℕ → Result (Unit {0}) LineFault → Type 0
KeepsLines k bytes (Ok done) = StandsFor k bytes
KeepsLines k bytes (Err fault) = IsWholeReason (kept_by k) bytes fault

-- the bytes are an ended proof of these lines, whose logged vectors are covered
abbrev pub IsProofOf : JudgedBy → List Line → List ℕ → Type 0
IsProofOf by lines bytes = (proof : IsEndedProof by.problem by.vectors bytes) × (proof.lines ≡ lines)

-- ---- the log file

-- the file is one that is taken, and a proof of these lines
abbrev pub HoldsProof : Option Files → List ℕ → JudgedBy → List Line → Type 0
HoldsProof files log by lines = HasText files log (λ bytes. (length bytes < 2 ^ 62) × IsProofOf by lines bytes)

-- the lines make no id that is too large to be counted
abbrev pub AreFew : ProblemValue → List Line → Type 0
AreFew p lines = length p.rows + 1 + made_by lines ≤ 2 ^ 63

-- LIST was taken, and LOG is accepted with it; these are its lines.
pub record IsProved (files : Option Files) (a : TrimAsked) (i : InstanceValue) (entries : List Entry) (p : ProblemValue) (lines : List Line) : Type 0 where
  pub listed : IsListed files a.format a.input a.list i p entries
  pub proof : HoldsProof files a.log (record { problem = p; vectors = problem_vectors i entries }) lines
  pub few : AreFew p lines
