-- Laws of good states.
use Rattle.std.specs.Prelude.{◌≡◌, ◌≤◌, false, List, []}
use Rattle.pb_lin.specs.Problem.{ProblemValue, IsProblem}
use Rattle.proof_laws.specs.State.{StateValue}
use Rattle.proof_laws.specs.Replay.{IsReplay}
use Rattle.proof_laws.specs.declared.line.Line.{Line}
use Rattle.proof_rules.specs.Recording.{Snapshot, KeepsSurroundings}
use Rattle.recording.specs.Adding.{Adds}
use Rattle.recording.specs.Advice.{IsAdvice}
use Rattle.oracle.specs.Solving.{AddsSearchLines, AreEarned, IsDerived, IsWithin}
use Rattle.sum_outputs.specs.Adding.{Continues, IsReached, IsReady}
use Rattle.totalizer.specs.Keeping.{KeepsOwn}
use Rattle.search_base.specs.Logged.{AddsTurnLines, LogsNone, logged}
use Rattle.search_base.specs.CostBounds.{FitBounds}
use Rattle.search_base.specs.Boards.{BoardValue, IsBoard}
use Rattle.search_base.specs.Good.{IsGood}
use Rattle.search_base.specs.declared.objective_bound.ObjectiveBound.{ObjectiveBound}

-- the state has exactly what the lines have logged
abbrev pub LoggedIsReached : Type 0
LoggedIsReached = (p : ProblemValue) (lines : List Line) (s : StateValue) → IsReplay p lines s → s.sols ≡ logged p lines

-- an oracle's call, after which it may be asked again
pub record IsAskedOn (a b : Snapshot) : Type 0 where
  pub problem : b.problem ≡ a.problem
  pub limit : b.limit ≡ a.limit
  pub whole : b.broken ≡ false
  pub later : a.faults ≤ b.faults
  pub around : KeepsSurroundings a.around b.around
  pub lines : AddsSearchLines a.problem a.lines b.lines
  pub earned : AreEarned b.problem b.lines
  pub within : IsWithin b.limit b.problem b.lines

-- such a call keeps a good state good, and logs nothing
abbrev pub AskingStaysGood : Type 0
AskingStaysGood = (a b : Snapshot) (t : StateValue) (bounds : List ObjectiveBound) (board : BoardValue)
    → IsGood a bounds board → IsReached b t → IsAskedOn a b → IsGood b bounds board × LogsNone a.problem a.lines b.lines

-- so does a bound that is asked for
abbrev pub BoundingStaysGood : Type 0
BoundingStaysGood = (a b : Snapshot) (old new : List ObjectiveBound) (board : BoardValue)
    → IsGood a old board → Continues a b → b.broken ≡ false → FitBounds b new
    → IsGood b new board × LogsNone a.problem a.lines b.lines

-- the lines of an oracle, conservative ones and derived ones are lines of turns, and so are both after each other
pub record TurnLinesJoin : Type 0 where
  pub none : (p : ProblemValue) (lines : List Line) → AddsTurnLines p lines lines
  pub search : (p : ProblemValue) (old new : List Line) → AddsSearchLines p old new → AddsTurnLines p old new
  pub totalizer : (a b : Snapshot) → Continues a b → AddsTurnLines a.problem a.lines b.lines
  pub derived : (a b : Snapshot) → Adds IsDerived a b → AddsTurnLines a.problem a.lines b.lines
  pub both : (p : ProblemValue) (first second third : List Line) → AddsTurnLines p first second →
      AddsTurnLines p second third → AddsTurnLines p first third

-- they keep what no line has learned
abbrev pub TurnLinesKeepOwn : Type 0
TurnLinesKeepOwn = (p : ProblemValue) (old new : List Line) → AddsTurnLines p old new → KeepsOwn p old new

-- Lines that log nothing, have earned what they learned, as many as may be, and may be followed by others.
pub record IsPrepared (a : Snapshot) : Type 0 where
  pub ready : IsReady a
  pub none : logged a.problem a.lines ≡ []
  pub earned : AreEarned a.problem a.lines
  pub within : IsWithin a.limit a.problem a.lines

-- After such lines the state is good, for bounds that may be asked and a board that has nothing yet.
abbrev pub BeginningIsGood : Type 0
BeginningIsGood = (a : Snapshot) (bounds : List ObjectiveBound) (board : BoardValue)
    → IsPrepared a → board.problem ≡ a.problem → IsBoard board [] → FitBounds a bounds → IsGood a bounds board

-- a new proof of a problem has such lines: none
abbrev pub NoLinesArePrepared : Type 0
NoLinesArePrepared = (a : Snapshot) (s : StateValue)
    → IsProblem a.problem → a.lines ≡ [] → a.broken ≡ false → IsReached a s → IsPrepared a

-- lines that are taken of whoever hands them in leave such lines
abbrev pub AdvisedStaysPrepared : Type 0
AdvisedStaysPrepared = (a b : Snapshot) → IsPrepared a → Adds IsAdvice a b → b.broken ≡ false → IsPrepared b
