-- What an instance is to a contract, and its limits.
use Rattle.std.specs.Prelude.{◌≡◌, ℕ, ◌<◌, ◌≤◌, ◌^◌, ◌+◌, List, [], length, ℤ, unsigned_abs, sum_by, All}
use Rattle.scut_base.specs.Literal.{Literal}
use Rattle.instance.specs.declared.row.Linear.{Linear}
use Rattle.instance.specs.declared.objective.Soft.{Soft}
use Rattle.instance.specs.declared.objective.Objective.{Objective}
use Rattle.instance.specs.declared.objective.Sense.TheVariants.{Max}

-- an instance, field by field
pub record InstanceValue : Type 0 where
  pub vars : ℕ
  pub clauses : List (List Literal)
  pub linear : List Linear
  pub objectives : List Objective

-- the largest variable
abbrev pub max_vars : ℕ
max_vars = 2 ^ 24

-- the largest number of objectives
abbrev pub max_objectives : ℕ
max_objectives = 64

-- The magnitudes of an objective, or of a row and its bound, sum below this, so that every sum of them fits 64 bits with its sign.
abbrev pub magnitude_limit : ℕ
magnitude_limit = 2 ^ 63

-- no variable of the clause is above n
abbrev pub ClauseUpTo : ℕ → List Literal → Type 0
ClauseUpTo n clause = All (λ l. l.var ≤ n) clause

-- no variable of the terms is above n
abbrev pub TermsUpTo : ℕ → List (ℤ × Literal) → Type 0
TermsUpTo n terms = All (λ t. t.1.var ≤ n) terms

abbrev pub terms_magnitude : List (ℤ × Literal) → ℕ
terms_magnitude terms = sum_by (λ t. unsigned_abs t.0) terms

abbrev pub weights_sum : List Soft → ℕ
weights_sum softs = sum_by (λ s. s.weight) softs

-- the magnitudes of a row's coefficients and its bound
abbrev pub row_magnitude : Linear → ℕ
row_magnitude row = terms_magnitude row.terms + unsigned_abs row.bound

-- the magnitudes of an objective's weights, coefficients and offset
abbrev pub objective_magnitude : Objective → ℕ
objective_magnitude o = weights_sum o.softs + terms_magnitude o.terms + unsigned_abs o.offset

-- a row over the variables 1 to n, within its limit
pub record IsRowWithin (n : ℕ) (row : Linear) : Type 0 where
  pub variables : TermsUpTo n row.terms
  pub from_one : All (λ t. 0 < t.1.var) row.terms
  pub magnitude : row_magnitude row < magnitude_limit

-- An objective over n variables, within its limit. A maximised one has no soft clauses, since a false soft clause is a cost: no format has rewards for false clauses.
pub record IsObjectiveWithin (n : ℕ) (o : Objective) : Type 0 where
  pub clauses : All (λ s. ClauseUpTo n s.lits) o.softs
  pub variables : TermsUpTo n o.terms
  pub magnitude : objective_magnitude o < magnitude_limit
  pub maximised : o.sense ≡ Max → o.softs ≡ []

-- the limits of an instance
pub record IsWithinLimits (i : InstanceValue) : Type 0 where
  pub variables : i.vars ≤ max_vars
  pub count : length i.objectives ≤ max_objectives
  pub clauses : All (ClauseUpTo i.vars) i.clauses
  pub rows : All (IsRowWithin i.vars) i.linear
  pub objectives : All (IsObjectiveWithin i.vars) i.objectives
  pub size : length i.clauses + length i.linear + sum_by (λ o. length o.softs) i.objectives < 2 ^ 32
