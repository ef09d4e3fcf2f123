-- Problems of constraints and of sums to be minimised.
use Rattle.std.specs.Prelude.{◌≡◌, ℕ, ◌^◌, ◌<◌, ◌≤◌, Bool, List, length, map, All, ℤ}
use Rattle.pb_lin.specs.Constraint.{ConstraintValue, Holds, IsNormal, size, TermsUpTo}
use Rattle.pb_lin.specs.CostRow.{CostRowValue, IsCostRow, row_cost}

-- a problem, field by field
pub record ProblemValue : Type 0 where
  pub vars : ℕ
  pub rows : List ConstraintValue
  pub costs : List CostRowValue

-- Rows in normal form and cost rows over the variables 1 to `vars`, within the limits.
pub record IsProblem (p : ProblemValue) : Type 0 where
  pub variables : p.vars < 2 ^ 33
  pub count : length p.rows ≤ 2 ^ 34
  pub objectives : length p.costs ≤ 64
  pub normal_rows : All (λ c. IsNormal c.terms c.degree) p.rows
  pub row_variables : All (λ c. TermsUpTo p.vars c.terms) p.rows
  pub row_sizes : All (λ c. size c ≤ 2 ^ 66) p.rows
  pub cost_rows : All (λ r. IsCostRow r.terms r.offset) p.costs
  pub cost_variables : All (λ r. TermsUpTo p.vars r.terms) p.costs

-- an assignment of the problem's variables that makes every row hold
pub record IsProblemModel (p : ProblemValue) (a : List Bool) : Type 0 where
  pub variables : length a ≡ p.vars
  pub rows : All (Holds a) p.rows

-- the values of the cost rows
abbrev pub problem_costs : ProblemValue → List Bool → List ℤ
problem_costs p a = map (row_cost a) p.costs
