-- Objectives in other terms whose offsets are reached, and lines that are boosted.
use Rattle.std.specs.Prelude.{◌≡◌, ◌⊎◌, ℕ, ◌<◌, ◌≤◌, ◌^◌, Bool, true, false, List, [], ◌++◌, length, slice_index_or, Some, All, Contains, pos, ◌+ℤ◌, Result, IfErr}
use Rattle.std.specs.FinMap.{get}
use Rattle.std.specs.List.{AllZip}
use Rattle.scut_base.specs.Literal.{Literal}
use Rattle.scut_base.specs.Assignment.{lit_true}
use Rattle.pb_lin.specs.Constraint.{ConstraintValue, literals}
use Rattle.pb_lin.specs.CostRow.{CostRowValue}
use Rattle.pb_lin.specs.Problem.{ProblemValue}
use Rattle.proof_laws.specs.State.{StateValue}
use Rattle.proof_laws.specs.Refusal.{is_clause}
use Rattle.proof_laws.specs.Replay.{IsReplay}
use Rattle.proof_laws.specs.Earned.{IsBoosted, IsLeastValue, is_sol}
use Rattle.proof_laws.specs.declared.line.Line.{Line}
use Rattle.proof_rules.specs.Recording.{Snapshot}
use Rattle.oracle.specs.Solving.{AreEarned, IsSolution, IsWithin}
use Rattle.oracle.specs.declared.fault.OracleFault.{OracleFault}
use Rattle.sum_outputs.specs.Adding.{IsReached, IsReady}
use Rattle.totalizer.specs.declared.reform.Reform.{Reform}
use Rattle.totalizer.specs.Reforming.{IsReformOf}
use Rattle.search_base.specs.Good.{GoesOn}
use Rattle.search_base.specs.Laws.{IsPrepared}
use Rattle.search_base.specs.Logged.{LogsNone}
use Rattle.search_base.specs.Turns.{IsInOrder, IsSearchFault}

-- ---- before and after a call

-- Lines may follow; those that are there have earned what they learned, as many as may be.
pub record MayBoost (a : Snapshot) : Type 0 where
  pub ready : IsReady a
  pub earned : AreEarned a.problem a.lines
  pub within : IsWithin a.limit a.problem a.lines

-- Nothing is logged, and a fault says why there is no answer; after an answer, or where all clauses are spent, more may
-- be boosted.
pub record BoostsOn {T : Type 0} (a b : Snapshot) (result : Result T OracleFault) : Type 0 where
  pub may : IsInOrder result → MayBoost b
  pub none : LogsNone a.problem a.lines b.lines
  pub fault : IfErr result (IsSearchFault a b)
  pub goes_on : GoesOn a b

-- ---- one objective

-- it is the row in other terms in the state that is reached
abbrev pub IsReformNow : Snapshot → CostRowValue → Reform → Type 0
IsReformNow a row r = (s : StateValue) → IsReached a s → IsReformOf a.problem a.lines s row r

-- "0 >= 1" is live
abbrev pub IsContradicted : StateValue → Type 0
IsContradicted s = (id : ℕ) × (get s.live id ≡ Some (record { terms = []; degree = 1 }))

-- some assignment makes the rows and every live clause hold, and each of the terms' literals false
pub record ReachesOffset (p : ProblemValue) (terms : List (Literal × ℕ)) (s : StateValue) : Type 0 where
  pub solution : List Bool
  pub solves : IsSolution p [] solution s
  pub none : All (λ t. lit_true solution t.0 ≡ false) terms

-- where the boosting of an objective ends
abbrev pub EndsBoosting : ProblemValue → List (Literal × ℕ) → StateValue → Type 0
EndsBoosting p terms s = IsContradicted s ⊎ ((2 ^ 40 < s.vars) ⊎ ReachesOffset p terms s)

-- a live clause over some of the terms' literals, one at least
pub record IsCoreLine (terms : List (Literal × ℕ)) (id : ℕ) (s : StateValue) : Type 0 where
  pub line : ConstraintValue
  pub live : get s.live id ≡ Some line
  pub clause : is_clause line ≡ true
  pub some : 0 < length line.terms
  pub among : All (Contains (literals terms)) (literals line.terms)

-- a core to be taken up, in a state of not too many variables
pub record HasCoreLine (terms : List (Literal × ℕ)) (id : ℕ) (s : StateValue) : Type 0 where
  pub few : s.vars ≤ 2 ^ 40
  pub core : IsCoreLine terms id s

-- ---- all objectives

-- the offset is the least value of the row among all models
abbrev pub HasLeastOffset : ProblemValue → CostRowValue → Reform → Type 0
HasLeastOffset p row r = (m : ℕ) × IsLeastValue p row m × (r.offset ≡ row.offset +ℤ pos m)

-- after some first lines, of which none logs a solution, "0 >= 1" is live or there are more than 2^40 variables
abbrev pub EndsEarly : ProblemValue → List Line → Type 0
EndsEarly p lines = (before : List Line) × (after : List Line) × (s : StateValue) × (lines ≡ before ++ after)
    × All (λ line. is_sol line ≡ false) before × IsReplay p before s × (IsContradicted s ⊎ (2 ^ 40 < s.vars))

-- each objective's least value is the offset of its reform, unless boosting has ended early
abbrev pub HaveLeastOffsets : ProblemValue → List Line → List Reform → Type 0
HaveLeastOffsets p lines reforms = EndsEarly p lines ⊎ AllZip (HasLeastOffset p) p.costs reforms

-- The first objectives in other terms; boosting has ended early, or each of these has its least value as its offset.
pub record BoostsFirst (a : Snapshot) (reforms : List Reform) : Type 0 where
  pub prepared : IsPrepared a
  pub most : length reforms ≤ length a.problem.costs
  pub each : (k : ℕ) (d : CostRowValue) (e : Reform) → k < length reforms
      → IsReformNow a (slice_index_or a.problem.costs k d) (slice_index_or reforms k e)
  pub least : EndsEarly a.problem a.lines
      ⊎ ((k : ℕ) (d : CostRowValue) (e : Reform) → k < length reforms
      → HasLeastOffset a.problem (slice_index_or a.problem.costs k d) (slice_index_or reforms k e))

-- ---- laws

-- lines that begin with boosted ones are boosted
abbrev pub BoostedStays : Type 0
BoostedStays = (p : ProblemValue) (lines more : List Line) → IsBoosted p lines → IsBoosted p (lines ++ more)
