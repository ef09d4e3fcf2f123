-- What a turn of a search does, and what a search is.
use Rattle.std.specs.Prelude.{◌≡◌, ℕ, ◌<◌, ◌^◌, List, [], length, take, ℤ, Bool, Result, Ok, Err, Some}
use Rattle.std.specs.FinMap.{get}
use Rattle.scut_base.specs.Faults.{Rose}
use Rattle.front_set.specs.Vector.{IsBelow}
use Rattle.instance.specs.Meaning.{costs_of}
use Rattle.instance.specs.ParetoFront.{problem_vector}
use Rattle.pb_lin.specs.Problem.{ProblemValue, problem_costs}
use Rattle.proof_laws.specs.State.{StateValue, Satisfies}
use Rattle.proof_laws.specs.Replay.{IsReplay}
use Rattle.proof_laws.specs.declared.line.Line.{Line}
use Rattle.proof_rules.specs.Recording.{Snapshot}
use Rattle.oracle.specs.Solving.{IsSolution, IsSpent, Reaches}
use Rattle.oracle.specs.declared.fault.OracleFault.{OracleFault}
use Rattle.oracle.specs.declared.fault.OracleFault.TheVariants.{Spent, Failed, Full, NoMemory}
use Rattle.search_base.specs.Boards.{BoardValue}
use Rattle.search_base.specs.Logged.{LogsNone, Logs}
use Rattle.search_base.specs.CostBox.{uncovered}
use Rattle.search_base.specs.declared.turn.Turn.{Turn}
use Rattle.search_base.specs.declared.turn.Turn.TheVariants.{Found, Moved, Finished}

-- one vector was logged that no logged one was below
pub record FindsNew (a b : Snapshot) : Type 0 where
  pub costs : List ℤ
  pub logs : Logs a.problem a.lines b.lines costs
  pub falls : uncovered a.problem b.lines < uncovered a.problem a.lines

-- the live line of this id is "0 >= 1"
abbrev pub IsEndLine : ProblemValue → List Line → ℕ → Type 0
IsEndLine p lines id = Reaches p lines (λ s. get s.live id ≡ Some (record { terms = []; degree = 1 }))

-- what a turn answers, for a search of this number before it and after it
abbrev pub IsTurn : Snapshot → Snapshot → ℕ → ℕ → Turn → Type 0
IsTurn a b own now Found = FindsNew a b
IsTurn a b own now Moved = LogsNone a.problem a.lines b.lines × (now < own)
IsTurn a b own now (Finished id) = LogsNone a.problem a.lines b.lines × IsEndLine b.problem b.lines id

-- why there is no answer
abbrev pub IsSearchFault : Snapshot → Snapshot → OracleFault → Type 0
IsSearchFault a b (Spent learned) = IsSpent b.limit b.problem b.lines learned
IsSearchFault a b Failed = Rose a.faults b.faults
IsSearchFault a b Full = length b.lines ≡ 2 ^ 61
IsSearchFault a b NoMemory = Unit {0}

-- an answer, or all clauses spent: then all may go on
abbrev pub IsInOrder : {T : Type 0} → Result T OracleFault → Type 0
IsInOrder (Ok answer) = Unit {0}
IsInOrder (Err (Spent learned)) = Unit {0}
IsInOrder (Err fault) = ⊥

-- some assignment that satisfies the state that is reached has costs below these
abbrev pub IsRemaining : Snapshot → List ℤ → Type 0
IsRemaining a v = (s : StateValue) × IsReplay a.problem a.lines s
    × (x : List Bool) × Satisfies a.problem s x × IsBelow (problem_costs a.problem x) v

-- an assignment of the variables that are there, which makes the rows and every live clause hold
abbrev pub IsTakable : Snapshot → List Bool → Type 0
IsTakable a x = Reaches a.problem a.lines (IsSolution a.problem [] x)

-- a model was taken: its costs in the board's instance are logged, which no logged vector was below, and which are below
-- its costs in the problem
pub record IsTaken (a b : Snapshot) (front : BoardValue) (x : List Bool) : Type 0 where
  pub found : FindsNew a b
  pub costs : found.costs ≡ problem_vector front.instance (costs_of front.instance (take front.instance.vars x))
  pub below : IsBelow found.costs (problem_costs a.problem x)
