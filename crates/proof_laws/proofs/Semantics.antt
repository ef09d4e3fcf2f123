-- What each kind of step does to the assignments that satisfy a state, said of the assignments alone.
use Rattle.std.specs.Prelude.{◌≡◌, ◌≢◌, ◌⊎◌, ℕ, ◌+◌, ◌<◌, ◌≤◌, Bool, Some, List, [], ◌∷◌, ◌++◌, map, length, sum_by, All, ℤ, pos, ◌-ℤ◌}
use Rattle.std.specs.List.{range_with_len}
use Rattle.std.specs.FinMap.{get, remove}
use Rattle.scut_base.specs.Literal.{Literal}
use Rattle.pb_lin.specs.Constraint.{ConstraintValue, Holds, value}
use Rattle.pb_lin.specs.NormalForm.{HasExcess}
use Rattle.pb_lin.specs.CostRow.{CostRowValue}
use Rattle.pb_lin.specs.Problem.{ProblemValue}
use Rattle.pb_lin.specs.Substitution.{Images, variable_under, value_under}
use Rattle.proof_laws.specs.State.{StateValue, Satisfies, IsLogged, IsReached}
use Rattle.proof_laws.specs.Steps.{with_live}

-- one more variable, with two lines
abbrev pub with_defined : StateValue → ℕ → ConstraintValue → ConstraintValue → StateValue
with_defined s id c d = record (with_live (with_live s id c) (id + 1) d) { vars = s.vars + 1 }

-- one more line, and one more logged vector
abbrev pub with_logged : StateValue → ℕ → ConstraintValue → List ℤ → StateValue
with_logged s id c u = record (with_live s id c) { sols = s.sols ++ u ∷ [] }

-- the same without a line
abbrev pub without_line : StateValue → ℕ → StateValue
without_line s id = record s { live = remove s.live id }

-- the sum of the costs, without the offsets
abbrev pub weight : ProblemValue → List Bool → ℕ
weight p a = sum_by (λ r. value a r.terms) p.costs

abbrev pub IsCovered : ProblemValue → StateValue → List ℤ → Type 0
IsCovered p s v = IsLogged s v ⊎ IsReached p s v

-- the variables of the terms are among the first n
abbrev pub AreWithin : ℕ → List (Literal × ℕ) → Type 0
AreWithin n terms = All (λ t. (0 < t.0.var) × (t.0.var ≤ n)) terms

-- the problem speaks of its own variables, and the lines of those of the state
pub record IsWithin (p : ProblemValue) (s : StateValue) : Type 0 where
  pub vars : p.vars ≤ s.vars
  pub rows : All (λ c. AreWithin p.vars c.terms) p.rows
  pub costs : All (λ r. AreWithin p.vars r.terms) p.costs
  pub live : (id : ℕ) (c : ConstraintValue) → get s.live id ≡ Some c → AreWithin s.vars c.terms

-- the assignment that gives each variable the truth of what stands for it
abbrev pub image : Images → List Bool → List Bool
image w x = map (variable_under w x) (range_with_len 1 (length x))

-- no variable of the terms has an image of its own
abbrev pub AreUntouched : Images → List (Literal × ℕ) → Type 0
AreUntouched w terms = All (λ t. All (λ i. i.0 ≢ t.0.var) w) terms

-- P is so of each assignment that satisfies the state and at which c doesn't hold
abbrev pub Broken : ProblemValue → StateValue → ConstraintValue → (List Bool → Type 0) → Type 0
Broken p s c P = (x : List Bool) → Satisfies p s x → (Holds x c → ⊥) → P x

-- d holds at the images of these
abbrev pub StaysTrue : ProblemValue → StateValue → ConstraintValue → Images → ConstraintValue → Type 0
StaysTrue p s c w d = Broken p s c (λ x. Holds (image w x) d)

-- the images of these don't raise the row
abbrev pub StaysLow : ProblemValue → StateValue → ConstraintValue → Images → CostRowValue → Type 0
StaysLow p s c w r = Broken p s c (λ x. value_under w x r.terms ≤ value x r.terms)

-- the images of what breaks the line satisfy the state and the line, at no higher cost
pub record IsRedundant (p : ProblemValue) (s : StateValue) (c : ConstraintValue) (w : Images) : Type 0 where
  pub rows : All (StaysTrue p s c w) p.rows
  pub live : (id : ℕ) (d : ConstraintValue) → get s.live id ≡ Some d → StaysTrue p s c w d
  pub itself : StaysTrue p s c w c
  pub costs : All (StaysLow p s c w) p.costs

-- the images of what breaks the line are models of the problem, at no higher cost, and at a lower sum
pub record IsDominated (p : ProblemValue) (s : StateValue) (c : ConstraintValue) (w : Images) : Type 0 where
  pub rows : All (StaysTrue p s c w) p.rows
  pub costs : All (StaysLow p s c w) p.costs
  pub sum : Broken p s c (λ x. sum_by (λ r. value_under w x r.terms) p.costs < weight p x)

-- the row's terms minus these under the substitution are at least 0
abbrev pub IsCostGoal : ConstraintValue → Images → CostRowValue → Type 0
IsCostGoal g w r = HasExcess g (λ a. pos (value a r.terms) -ℤ pos (value_under w a r.terms))

-- the sum of these over the rows is at least 1
abbrev pub IsStrictGoal : ConstraintValue → Images → ProblemValue → Type 0
IsStrictGoal g w p = HasExcess g (λ a. (pos (weight p a) -ℤ pos (sum_by (λ r. value_under w a r.terms) p.costs)) -ℤ pos 1)
