-- The normal form of a sum, of any coefficients on any literals, that is at least a degree.
use Rattle.std.specs.Prelude.{◌≡◌, ℕ, ◌+◌, Bool, if◌then◌else◌, List, map, fold, sum_by, ℤ, pos, ◌+ℤ◌, ◌-ℤ◌, unsigned_abs}
use Rattle.std.specs.Int.{int_max}
use Rattle.scut_base.specs.Literal.{Literal}
use Rattle.scut_base.specs.Assignment.{lit_true}
use Rattle.pb_lin.specs.Constraint.{ConstraintValue, value}

-- the coefficient where the literal is true, and else 0
abbrev pub signed_value : List Bool → ℤ × Literal → ℤ
signed_value a t = if lit_true a t.1 then t.0 else pos 0

-- the sum of the coefficients of the true literals
abbrev pub sum_value : List Bool → List (ℤ × Literal) → ℤ
sum_value a terms = fold (λ s x. s +ℤ x) (pos 0) (map (signed_value a) terms)

-- the magnitudes of the coefficients and of the degree, summed
abbrev pub magnitude : List (ℤ × Literal) → ℤ → ℕ
magnitude terms degree = sum_by (λ t. unsigned_abs t.0) terms + unsigned_abs degree

-- The constraint's excess: at every assignment its left side minus `least` is `excess`, and its degree is `least`, or 0 where that is below 0.
-- So the left side is at least the degree exactly where the excess is at least 0.
pub record HasExcess (c : ConstraintValue) (excess : List Bool → ℤ) : Type 0 where
  pub least : ℤ
  pub same : (a : List Bool) → pos (value a c.terms) -ℤ least ≡ excess a
  pub degree : pos c.degree ≡ int_max least (pos 0)

-- the normal form of the given sum
abbrev pub IsNormalForm : ConstraintValue → List (ℤ × Literal) → ℤ → Type 0
IsNormalForm c terms degree = HasExcess c (λ a. sum_value a terms -ℤ degree)
