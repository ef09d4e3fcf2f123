-- Trails of a search: decisions, and between them steps that lines force.
use Rattle.std.specs.Prelude.{◌≡◌, ◌≢◌, ℕ, ◌+◌, ◌<◌, ◌≤◌, ◌⊎◌, Bool, true, List, None, Some, slice_get, All, AllPairs}
use Rattle.std.specs.FinMap.{get}
use Rattle.scut_base.specs.Literal.{Literal}
use Rattle.scut_base.specs.Assignment.{lit_true, partial_truth}
use Rattle.pb_lin.specs.Constraint.{ConstraintValue, IsNormal}
use Rattle.pb_lin.specs.LineMap.{LineMap, LinesUpTo}
use Rattle.clause_prop.specs.Steps.{TrailValue, AreSteps, cut, partial, last_level}
use Rattle.clause_prop.specs.Propagating.{Forces, IsClosedFor}
use Rattle.clause_prop.specs.declared.step.Step.{Step}

-- lines in normal form over the variables 1 to n, none of which has the id 0, that of no reason
pub record AreLines (n : ℕ) (store : LineMap) : Type 0 where
  pub no_zero : get store 0 ≡ None
  pub normal : (id : ℕ) (c : ConstraintValue) → get store id ≡ Some c → IsNormal c.terms c.degree
  pub variables : LinesUpTo n store

-- the step at a place
abbrev pub IsStepAt : TrailValue → ℕ → Step → Type 0
IsStepAt t p s = slice_get t.steps p ≡ Some s

-- The steps before place p leave no line violated and none that forces a literal, and the step begins a level of its own.
pub record IsDecision (store : LineMap) (t : TrailValue) (p : ℕ) (s : Step) : Type 0 where
  pub closed : IsClosedFor store (cut t p)
  pub positive : 0 < s.level
  pub above : (q : ℕ) (r : Step) → q < p → IsStepAt t q r → r.level < s.level

-- the level is 0, or that of a step before place p
abbrev pub IsLevelBefore : TrailValue → ℕ → ℕ → Type 0
IsLevelBefore t p level = (level ≡ 0) ⊎ ((q : ℕ) × (r : Step) × (q < p) × IsStepAt t q r × (r.level ≡ level))

-- The line that is the step's reason forces its literal under the steps before place p, and the step begins no level.
pub record IsForcedAt (store : LineMap) (t : TrailValue) (p : ℕ) (s : Step) : Type 0 where
  pub line : ConstraintValue
  pub there : get store s.reason ≡ Some line
  pub forces : Forces (partial (cut t p)) line s.lit
  pub level : IsLevelBefore t p s.level

-- Steps without a reason are decisions, and their lines force all others; levels rise along the trail, by decisions alone.
pub record IsSearchTrail (store : LineMap) (t : TrailValue) : Type 0 where
  pub steps : AreSteps t.vars t.steps
  pub decided : (p : ℕ) (s : Step) → IsStepAt t p s → s.reason ≡ 0 → IsDecision store t p s
  pub forced : (p : ℕ) (s : Step) → IsStepAt t p s → s.reason ≢ 0 → IsForcedAt store t p s
  pub rising : AllPairs (λ r s. r.level ≤ s.level) t.steps
  pub low : (p : ℕ) (s : Step) → IsStepAt t p s → s.level ≤ p + 1

-- the decision of a literal after all steps
abbrev pub decision : TrailValue → Literal → Step
decision t l = record { lit = l; level = last_level t.steps + 1; reason = 0 }

-- no step is a decision
abbrev pub IsUndecided : TrailValue → Type 0
IsUndecided t = All (λ s. s.reason ≢ 0) t.steps

-- the steps before `keep` are up to the level, and those from `keep` on above it
pub record IsUpTo (t : TrailValue) (level keep : ℕ) : Type 0 where
  pub low : (p : ℕ) (s : Step) → p < keep → IsStepAt t p s → s.level ≤ level
  pub high : (p : ℕ) (s : Step) → keep ≤ p → IsStepAt t p s → level < s.level

-- every variable has a step
abbrev pub IsFull : TrailValue → Type 0
IsFull t = (l : Literal) → 0 < l.var → l.var ≤ t.vars → partial_truth (partial t) l ≢ None

-- the assignment that makes the steps' literals true
abbrev pub IsOfSteps : TrailValue → List Bool → Type 0
IsOfSteps t a = (l : Literal) → partial_truth (partial t) l ≡ Some true → lit_true a l ≡ true
