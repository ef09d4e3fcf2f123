-- What holds while a solver works, and what each step of the work keeps.
use Rattle.std.specs.Prelude.{◌≡◌, ◌≢◌, ℕ, ◌^◌, ◌<◌, ◌≤◌, ◌++◌, ◌∷◌, ◌⊎◌, Bool, true, false, List, [], length, All, Contains, Option, Some, IsSome, Result, Ok, Err, IsOkAnd}
use Rattle.std.specs.FinMap.{get}
use Rattle.scut_base.specs.Faults.{Rose}
use Rattle.scut_base.specs.Literal.{Literal}
use Rattle.scut_base.specs.Assignment.{partial_truth}
use Rattle.pb_lin.specs.Constraint.{ConstraintValue}
use Rattle.hint_rup.specs.declared.hint.Hint.{Hint}
use Rattle.proof_laws.specs.State.{StateValue, IsState, Fits}
use Rattle.proof_laws.specs.Replay.{IsReplay}
use Rattle.proof_laws.specs.declared.line.Line.{Line}
use Rattle.proof_laws.specs.declared.line.Line.TheVariants.{Reduce, Rup}
use Rattle.proof_rules.specs.Recording.{Snapshot, KeepsRecorder}
use Rattle.oracle.specs.Solving.{AddsSearchLines, AreEarned, IsAnswer, IsClauseAgainst, IsCoreClause, IsSpent, IsWithin, Reaches}
use Rattle.oracle.specs.declared.fault.OracleFault.{OracleFault}
use Rattle.oracle.specs.declared.fault.OracleFault.TheVariants.{Spent, Failed, Full, NoMemory}
use Rattle.clause_prop.specs.Steps.{TrailValue, partial, cut}
use Rattle.clause_prop.specs.declared.step.Step.{Step}
use Rattle.cdcl_trail.specs.SearchTrail.{IsStepAt}
use Rattle.cdcl_laws.specs.StoredLines.{IsStored}
use Rattle.cdcl_trail.specs.Rank.{rank}
use Rattle.cdcl_laws.specs.SearchLines.{AddsLearned}
use Rattle.cdcl_state.specs.Searching.{SearchValue}
use Rattle.oracle.specs.declared.answer.Answer.{Answer}
use Rattle.oracle.specs.declared.answer.Core.{Core}
use Rattle.cdcl_core.specs.Ledgers.{LedgerValue, IsLedger, IsPart, left}
use Rattle.cdcl_core.specs.declared.progress.Progress.{Progress}
use Rattle.cdcl_core.specs.declared.progress.Progress.TheVariants.{Answered, Learned, Decided}

-- a solver over a recorder
pub record SolverValue (R : Type 0) : Type 0 where
  pub recorder : R
  pub limit : Option ℕ
  pub broken : Bool
  -- the search, and the first id that it hasn't taken up
  pub search : SearchValue
  pub next : ℕ
  pub rows : ℕ
  pub ledger : LedgerValue

-- ---- what a solver holds

-- The lines reach a state of which the search holds the rows and the clauses up to an id; its ledger is of these lines.
pub record IsHeld {R : Type 0} (seen : R → Snapshot) (s : SolverValue R) : Type 0 where
  pub state : StateValue
  pub replay : IsReplay (seen s.recorder).problem (seen s.recorder).lines state
  pub fits : Fits (seen s.recorder).problem state
  pub is : IsState state
  pub row_count : s.rows ≡ length (seen s.recorder).problem.rows
  pub positive : 0 < s.next
  pub stored : IsStored (seen s.recorder).problem state s.next s.search.store
  pub vars : s.search.trail.vars ≤ state.vars
  pub listed : IsLedger (seen s.recorder).problem (seen s.recorder).lines s.next s.ledger

-- the same, with all lines and variables
pub record IsTakenUp {R : Type 0} (seen : R → Snapshot) (s : SolverValue R) : Type 0 where
  pub held : IsHeld seen s
  pub all : s.next ≡ held.state.next_id
  pub vars : s.search.trail.vars ≡ held.state.vars
  pub unended : held.state.ended ≡ false

-- The work is done in good order: the recorder is whole, and the lines have earned their clauses.
pub record IsDone {R : Type 0} (seen : R → Snapshot) (s : SolverValue R) : Type 0 where
  pub whole : (seen s.recorder).broken ≡ false
  pub earned : AreEarned (seen s.recorder).problem (seen s.recorder).lines
  pub held : IsHeld seen s

-- The solver is at work: nothing is promised of it, its recorder is whole, all lines are taken up and have earned their clauses, within the limit.
pub record IsWorking {R : Type 0} (seen : R → Snapshot) (s : SolverValue R) : Type 0 where
  pub begun : s.broken ≡ true
  pub whole : (seen s.recorder).broken ≡ false
  pub taken : IsTakenUp seen s
  pub earned : AreEarned (seen s.recorder).problem (seen s.recorder).lines
  pub within : IsWithin s.limit (seen s.recorder).problem (seen s.recorder).lines

-- the lines reach some state, of which P holds
abbrev pub Reached : {R : Type 0} → (R → Snapshot) → SolverValue R → (StateValue → Type 0) → Type 0
Reached seen s P = Reaches (seen s.recorder).problem (seen s.recorder).lines P

-- the answer is true of the lines
abbrev pub Answers : {R : Type 0} → (R → Snapshot) → SolverValue R → List Literal → Answer → Type 0
Answers seen s assumptions answer = IsAnswer (seen s.recorder).problem (seen s.recorder).lines assumptions answer

-- the line of a reduction: it names some of the learned clauses, all of them stored
pub record NamesLearned {R : Type 0} (s : SolverValue R) (line : Line) : Type 0 where
  pub named : List ℕ
  pub is : line ≡ Reduce named
  pub some : named ≢ []
  pub part : IsPart named s.ledger.ids
  pub live : All (λ id. IsSome (get s.search.store id)) named

-- ---- what a step of the work keeps, and how it ends

-- What every step of the work keeps, however it ends.
pub record StepsFrom {R : Type 0} (seen : R → Snapshot) (old new : SolverValue R) : Type 0 where
  pub begun : new.broken ≡ true
  pub limit : new.limit ≡ old.limit
  pub kept : KeepsRecorder (seen old.recorder) (seen new.recorder)
  pub within : IsWithin old.limit (seen old.recorder).problem (seen new.recorder).lines
  pub adds : AddsSearchLines (seen old.recorder).problem (seen old.recorder).lines (seen new.recorder).lines

-- a step that implies no clause
abbrev pub LearnsAlone : {R : Type 0} → (R → Snapshot) → SolverValue R → SolverValue R → Type 0
LearnsAlone seen old new = AddsLearned (seen old.recorder).problem (seen old.recorder).lines (seen new.recorder).lines

-- P of each clause that a step implies
abbrev pub ImpliesOnly : {R : Type 0} → (R → Snapshot) → SolverValue R → SolverValue R → (ConstraintValue → Type 0) → Type 0
ImpliesOnly seen old new P = (first after : List Line) (goal : ConstraintValue) (hints : List Hint)
    → (seen new.recorder).lines ≡ (seen old.recorder).lines ++ (first ++ (Rup goal hints ∷ after)) → P goal

-- the clause of the core that is answered
abbrev pub IsOfCore : Result Core OracleFault → ConstraintValue → Type 0
IsOfCore result goal = IsOkAnd result (λ core. IsClauseAgainst core.lits goal)

-- why a line wasn't recorded
abbrev pub IsRecordCause : Snapshot → Snapshot → OracleFault → Type 0
IsRecordCause before now (Spent learned) = ⊥
IsRecordCause before now Failed = Rose before.faults now.faults
IsRecordCause before now Full = length now.lines ≡ 2 ^ 61
IsRecordCause before now NoMemory = Unit {0}

-- why the work stops without an answer: where all clauses are spent it is done in good order, with D
abbrev pub Stops : Option ℕ → ℕ → Snapshot → Type 0 → OracleFault → Type 0
Stops limit faults now D (Spent learned) = IsSpent limit now.problem now.lines learned × D
Stops limit faults now D Failed = Rose faults now.faults
Stops limit faults now D Full = length now.lines ≡ 2 ^ 61
Stops limit faults now D NoMemory = Unit {0}

-- how a step of the work ends
abbrev pub Ends : {R A : Type 0} → (R → Snapshot) → SolverValue R → SolverValue R → Result A OracleFault → Type 0
Ends seen old new (Ok a) = IsDone seen new
Ends seen old new (Err fault) = Stops old.limit (seen old.recorder).faults (seen new.recorder) (IsDone seen new) fault

-- ---- the turns of a search

-- each decision is an assumption, or all assumptions were true before it
abbrev pub IsLed : List Literal → TrailValue → Type 0
IsLed assumptions t = (q : ℕ) (s : Step) → IsStepAt t q s → s.reason ≡ 0
    → Contains assumptions s.lit ⊎ All (λ l. partial_truth (partial (cut t q)) l ≡ Some true) assumptions

-- whatever led to the decisions still does
abbrev pub KeepsLed : TrailValue → TrailValue → Type 0
KeepsLed old new = (assumptions : List Literal) → IsLed assumptions old → IsLed assumptions new

-- What brings a search nearer to its end: fewer reductions are left, or as many, and the trail ranks higher.
abbrev pub IsNearer : TrailValue → TrailValue → ℕ → ℕ → Type 0
IsNearer before after was now = (now < was) ⊎ ((now ≡ was) × (rank before < rank after))

-- What a turn leaves where the search goes on: more learned lines, or more steps.
pub record IsOn {R : Type 0} (seen : R → Snapshot) (assumptions : List Literal) (old new : SolverValue R) : Type 0 where
  pub working : IsWorking seen new
  pub led : IsLed assumptions new.search.trail
  pub learns : LearnsAlone seen old new
  pub nearer : IsNearer old.search.trail new.search.trail (left old.ledger.reductions) (left new.ledger.reductions)
  pub vars : new.search.trail.vars ≡ old.search.trail.vars

-- what a turn comes to: an answer, or the search goes on
abbrev pub IsProgress : {R : Type 0} → (R → Snapshot) → List Literal → SolverValue R → SolverValue R → Progress → Type 0
IsProgress seen assumptions old new (Answered answer) = IsAnswer (seen new.recorder).problem (seen new.recorder).lines assumptions answer
IsProgress seen assumptions old new Learned = IsOn seen assumptions old new
IsProgress seen assumptions old new Decided = IsOn seen assumptions old new

abbrev IsOfProgress : ConstraintValue → Progress → Type 0
IsOfProgress goal (Answered answer) = IsCoreClause (Ok answer) goal
IsOfProgress goal Learned = ⊥
IsOfProgress goal Decided = ⊥

-- the clause of the core that a turn answers
abbrev pub IsAnsweredCore : Result Progress OracleFault → ConstraintValue → Type 0
IsAnsweredCore result goal = IsOkAnd result (IsOfProgress goal)
