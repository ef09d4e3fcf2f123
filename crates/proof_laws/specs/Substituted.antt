-- What has to be so after a substitution, as constraints.
use Rattle.std.specs.Prelude.{ℕ, ◌+◌, Bool, List, [], ◌∷◌, ◌++◌, map, sum_by, ℤ, pos, ◌-ℤ◌}
use Rattle.std.specs.List.{filter}
use Rattle.std.specs.FinMap.{entries}
use Rattle.pb_lin.specs.Constraint.{ConstraintValue, IsNormal, size, value}
use Rattle.pb_lin.specs.NormalForm.{HasExcess}
use Rattle.pb_lin.specs.CostRow.{CostRowValue}
use Rattle.pb_lin.specs.Problem.{ProblemValue}
use Rattle.pb_lin.specs.Substitution.{Images, touches, value_under}
use Rattle.proof_laws.specs.State.{StateValue, numbered}
use Rattle.proof_laws.specs.declared.goal.Goal.{Goal}
use Rattle.proof_laws.specs.declared.goal.Goal.TheVariants.{Row, Itself, Objective, Strict}

-- A requirement: its name; the size of what is substituted into, which may be too large; and what the left side is above the degree, at each assignment.
pub record Requirement : Type 0 where
  pub goal : Goal
  pub size : ℕ
  pub excess : List Bool → ℤ

-- g is the requirement as a constraint in normal form
abbrev pub IsGoalOf : ConstraintValue → Requirement → Type 0
IsGoalOf g q = IsNormal g.terms g.degree × HasExcess g q.excess

-- a constraint holds after the substitution
abbrev pub holds_after : Images → Goal → ConstraintValue → Requirement
holds_after w goal c = record { goal = goal; size = size c; excess = λ a. pos (value_under w a c.terms) -ℤ pos c.degree }

-- an objective hasn't risen: its terms minus these under the substitution are at least 0
abbrev pub not_risen : Images → ℕ → CostRowValue → Requirement
not_risen w i r = record { goal = Objective i; size = 0; excess = λ a. pos (value a r.terms) -ℤ pos (value_under w a r.terms) }

-- the objectives from the i-th on haven't risen
abbrev pub none_risen : Images → ℕ → List CostRowValue → List Requirement
none_risen w i [] = []
none_risen w i (r ∷ rs) = not_risen w i r ∷ none_risen w (i + 1) rs

-- the sum of all objectives has fallen: the terms minus these under the substitution are at least 1
abbrev pub has_fallen : Images → ProblemValue → Requirement
has_fallen w p = record {
  goal = Strict;
  size = 0;
  excess = λ a. (pos (sum_by (λ r. value a r.terms) p.costs) -ℤ pos (sum_by (λ r. value_under w a r.terms) p.costs)) -ℤ pos 1;
}

-- the touched ones among constraints with ids hold after the substitution
abbrev pub touched_hold : Images → List (ℕ × ConstraintValue) → List Requirement
touched_hold w lines = map (λ e. holds_after w (Row e.0) e.1) (filter (λ e. touches w e.1) lines)

-- what redundance requires: all live lines, the constraint itself, no objective risen
abbrev pub redundance : ProblemValue → StateValue → Images → ConstraintValue → List Requirement
redundance p s w c = touched_hold w (entries s.live) ++ (holds_after w Itself c ∷ none_risen w 1 p.costs)

-- what dominance requires: the problem's rows, no objective risen, and their sum fallen
abbrev pub dominance : ProblemValue → Images → List Requirement
dominance p w = touched_hold w (numbered 1 p.rows) ++ (none_risen w 1 p.costs ++ (has_fallen w p ∷ []))
