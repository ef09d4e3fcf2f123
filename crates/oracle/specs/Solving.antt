-- What an oracle answers, and what it may add to a proof.
use Rattle.std.specs.Prelude.{◌≡◌, ◌≢◌, ◌↔◌, ℕ, ◌≤◌, ◌^◌, if◌then◌else◌, nat_lt, Bool, true, false, List, ◌∷◌, ◌++◌, length, All, AllPairs, Contains, Option, None, Some, Result, Ok, Err, IfOk, IfErr, OnOk}
use Rattle.std.specs.FinMap.{get}
use Rattle.std.specs.List.{count_by}
use Rattle.scut_base.specs.Faults.{Rose}
use Rattle.scut_base.specs.Literal.{Literal}
use Rattle.scut_base.specs.Assignment.{lit_true}
use Rattle.pb_lin.specs.Constraint.{ConstraintValue, Holds, IsVariable, literals, opposite}
use Rattle.pb_lin.specs.Problem.{ProblemValue}
use Rattle.hint_rup.specs.declared.hint.Hint.{Hint}
use Rattle.proof_laws.specs.State.{StateValue}
use Rattle.proof_laws.specs.Refusal.{is_clause}
use Rattle.proof_laws.specs.Replay.{IsReplay}
use Rattle.proof_laws.specs.Earned.{IsEarned, HasMore, IsLearnedId}
use Rattle.proof_laws.specs.declared.line.Line.{Line}
use Rattle.proof_laws.specs.declared.line.Line.TheVariants.{Pol, Rup, Learn, Reduce}
use Rattle.proof_rules.specs.Recording.{Snapshot, KeepsRecorder}
use Rattle.proof_rules.specs.declared.recorder.RecordFault.{RecordFault}
use Rattle.proof_rules.specs.declared.recorder.RecordFault.TheVariants.{Failed as RecordingFailed, Full as RecordFull, NoMemory as RecordNoMemory}
use Rattle.oracle.specs.declared.answer.Answer.{Answer}
use Rattle.oracle.specs.declared.answer.Answer.TheVariants.{Sat, Unsat}
use Rattle.oracle.specs.declared.fault.OracleFault.{OracleFault}
use Rattle.oracle.specs.declared.fault.OracleFault.TheVariants.{Spent, Failed, Full, NoMemory}

-- ---- before a call

-- the lines reach some state, of which P holds
abbrev pub Reaches : ProblemValue → List Line → (StateValue → Type 0) → Type 0
Reaches p lines P = (s : StateValue) → IsReplay p lines s → P s

-- literals of distinct variables from 1 to n
pub record AreAssumptions (n : ℕ) (lits : List Literal) : Type 0 where
  pub variables : All (λ l. IsVariable n l.var) lits
  pub apart : AllPairs (λ l m. l.var ≢ m.var) lits

-- no more clauses are learned than may be, where that is limited
abbrev pub IsWithin : Option ℕ → ProblemValue → List Line → Type 0
IsWithin None p lines = Unit {0}
IsWithin (Some limit) p lines = Reaches p lines (λ s. s.learned ≤ limit)

-- the lines have earned as many clauses as they learned
abbrev pub AreEarned : ProblemValue → List Line → Type 0
AreEarned p lines = (n : ℕ) × IsEarned p lines n

-- ---- the answers

-- an assignment of the state's variables that makes the rows, every live clause and the assumptions true
pub record IsSolution (p : ProblemValue) (assumptions : List Literal) (a : List Bool) (s : StateValue) : Type 0 where
  pub variables : length a ≡ s.vars
  pub rows : All (Holds a) p.rows
  pub clauses : (id : ℕ) (c : ConstraintValue) → get s.live id ≡ Some c → is_clause c ≡ true → Holds a c
  pub assumed : All (λ l. lit_true a l ≡ true) assumptions

-- the clause whose literals are the opposites of these
pub record IsClauseAgainst (lits : List Literal) (c : ConstraintValue) : Type 0 where
  pub clause : is_clause c ≡ true
  pub exact : (l : Literal) → Contains (literals c.terms) l ↔ Contains lits (opposite l)

-- Some of the assumptions, and the id of a live line by which they can't all be true.
pub record IsCore (assumptions lits : List Literal) (id : ℕ) (s : StateValue) : Type 0 where
  pub among : All (Contains assumptions) lits
  pub line : ConstraintValue
  pub live : get s.live id ≡ Some line
  pub against : IsClauseAgainst lits line

-- what an answer says of the state that the lines reach
abbrev pub IsAnswer : ProblemValue → List Line → List Literal → Answer → Type 0
IsAnswer p lines assumptions (Sat a) = Reaches p lines (IsSolution p assumptions a)
IsAnswer p lines assumptions (Unsat core) = Reaches p lines (IsCore assumptions core.lits core.id)

-- ---- the lines that a call adds

abbrev pub is_rup : Line → Bool
is_rup (Rup goal hints) = true
is_rup line = false

-- a clause that is learned, a reduction of learned ones, or an implied clause
abbrev pub IsSearchLine : ProblemValue → List Line → Line → Type 0
IsSearchLine p before (Learn goal hints) = Unit {0}
IsSearchLine p before (Reduce ids) = All (IsLearnedId p before) ids
IsSearchLine p before (Rup goal hints) = is_clause goal ≡ true
IsSearchLine p before line = ⊥

-- Lines of a search follow the old ones, of which one at most is an implied clause.
pub record AddsSearchLines (p : ProblemValue) (old new : List Line) : Type 0 where
  pub more : List Line
  pub is : new ≡ old ++ more
  pub kinds : (first : List Line) (line : Line) (after : List Line) → more ≡ first ++ (line ∷ after) → IsSearchLine p (old ++ first) line
  pub one_implied : count_by is_rup more ≤ 1

-- the clause of an answer's core
abbrev pub IsCoreClause : Result Answer OracleFault → ConstraintValue → Type 0
IsCoreClause (Ok (Unsat core)) goal = IsClauseAgainst core.lits goal
IsCoreClause result goal = ⊥

-- An implied clause among the new lines is that of the core, so there is one only where a core is answered.
abbrev pub ImpliesCoreAlone : List Line → List Line → Result Answer OracleFault → Type 0
ImpliesCoreAlone old new result = (first after : List Line) (goal : ConstraintValue) (hints : List Hint)
    → new ≡ old ++ (first ++ (Rup goal hints ∷ after)) → IsCoreClause result goal

-- ---- the faults

-- the fault of what keeps the proof, as an oracle has it
abbrev pub fault_of_recording : RecordFault → OracleFault
fault_of_recording RecordingFailed = Failed
fault_of_recording RecordFull = Full
fault_of_recording RecordNoMemory = NoMemory

-- the number of clauses that were learned is the limit, and one more could have followed
pub record IsSpent (most : Option ℕ) (p : ProblemValue) (lines : List Line) (learned : ℕ) : Type 0 where
  pub limit : most ≡ Some learned
  pub reached : Reaches p lines (λ s. s.learned ≡ learned)
  pub more : HasMore p lines

-- why there is no answer, and whether the oracle may be used again
abbrev pub HasFault : OracleFault → Option ℕ → ProblemValue → List Line → Type 0 → Bool → Type 0
HasFault (Spent learned) limit p lines Rose broken = IsSpent limit p lines learned × (broken ≡ false)
HasFault Failed limit p lines Rose broken = Rose × (broken ≡ true)
HasFault Full limit p lines Rose broken = (length lines ≡ 2 ^ 61) × (broken ≡ true)
HasFault NoMemory limit p lines Rose broken = broken ≡ true

-- an answer, or all clauses spent
abbrev pub IsOrderly : Result Answer OracleFault → Type 0
IsOrderly (Ok answer) = Unit {0}
IsOrderly (Err (Spent learned)) = Unit {0}
IsOrderly (Err fault) = ⊥

-- ---- a call that may learn less

-- the lesser of an oracle's limit and this one
abbrev pub lesser : Option ℕ → ℕ → ℕ
lesser None most = most
lesser (Some limit) most = if nat_lt limit most then limit else most

-- the oracle may be asked, and no more clauses are learned than this
pub record MayBeAsked (a : Snapshot) (most : ℕ) (lits : List Literal) : Type 0 where
  pub whole : a.broken ≡ false
  pub unended : Reaches a.problem a.lines (λ s. s.ended ≡ false)
  pub assumptions : Reaches a.problem a.lines (λ s. AreAssumptions s.vars lits)
  pub earned : AreEarned a.problem a.lines
  pub within : IsWithin (Some most) a.problem a.lines

-- It is answered, and no more clauses are learned than this.
pub record AnswersWithin (a b : Snapshot) (most : ℕ) (assumptions : List Literal) (result : Result Answer OracleFault) : Type 0 where
  pub answer : IfOk result (IsAnswer a.problem b.lines assumptions)
  pub fault : IfErr result (λ f. HasFault f (Some most) a.problem b.lines (Rose a.faults b.faults) b.broken)
  pub whole : OnOk result (b.broken ≡ false)
  pub lines : AddsSearchLines a.problem a.lines b.lines
  pub implied : ImpliesCoreAlone a.lines b.lines result
  pub earned : IsOrderly result → AreEarned a.problem b.lines
  pub within : IsWithin (Some most) a.problem b.lines
  pub keeps : KeepsRecorder a b

-- ---- lines that follow from others

-- a derived or an implied constraint
abbrev pub IsDerived : Line → Type 0
IsDerived (Pol tokens) = Unit {0}
IsDerived (Rup goal hints) = Unit {0}
IsDerived line = ⊥
