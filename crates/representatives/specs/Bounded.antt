-- The problem whose models are those that serve a vector and aren't listed.
use Rattle.std.specs.Prelude.{◌≡◌, ◌+◌, ◌-ℤ◌, ℕ, Bool, List, [], ◌∷◌, ◌++◌, map, ℤ}
use Rattle.scut_base.specs.Literal.{Literal}
use Rattle.pb_lin.specs.Constraint.{ConstraintValue, IsNormal}
use Rattle.pb_lin.specs.CostRow.{CostRowValue, row_cost}
use Rattle.pb_lin.specs.NormalForm.{HasExcess}
use Rattle.pb_lin.specs.Problem.{ProblemValue}
use Rattle.proof_laws.specs.Steps.{clause}
use Rattle.log_checker.specs.Accepted.{IsEndedProof}

-- "this row's cost is at most u", in normal form: u minus the cost is at least 0
pub record IsCostBound (r : CostRowValue) (u : ℤ) (c : ConstraintValue) : Type 0 where
  pub normal : IsNormal c.terms c.degree
  pub excess : HasExcess c (λ a. u -ℤ row_cost a r)

-- the bound of each cost row, in order
abbrev pub AreCostBounds : List CostRowValue → List ℤ → List ConstraintValue → Type 0
AreCostBounds [] [] [] = Unit {0}
AreCostBounds (r ∷ rs) (u ∷ us) (c ∷ cs) = IsCostBound r u c × AreCostBounds rs us cs
AreCostBounds _ _ _ = ⊥

-- the literals that the values of the variables from k on make false
abbrev pub false_literals : ℕ → List Bool → List Literal
false_literals k [] = []
false_literals k (b ∷ bs) = record { var = k; neg = b } ∷ false_literals (k + 1) bs

-- the clause that this assignment alone makes false, among those of its length
abbrev pub blocking : List Bool → ConstraintValue
blocking a = clause (false_literals 1 a)

-- The rows of the problem, a bound for each cost row, and for each assignment of the list the clause that it alone makes false; no costs.
pub record IsBounded (p : ProblemValue) (us : List ℤ) (list : List (List Bool)) (q : ProblemValue) : Type 0 where
  pub vars : q.vars ≡ p.vars
  pub bounds : List ConstraintValue
  pub are_bounds : AreCostBounds p.costs us bounds
  pub rows : q.rows ≡ p.rows ++ (bounds ++ map blocking list)
  pub costs : q.costs ≡ []

-- the log is a proof over the bounded problem of these models that ends and logs nothing
abbrev pub IsListingLog : ProblemValue → List ℤ → List (List Bool) → List ℕ → Type 0
IsListingLog p us list log = (q : ProblemValue) × IsBounded p us list q × IsEndedProof q [] log
