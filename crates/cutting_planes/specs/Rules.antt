-- The rules of cutting planes: what each makes of constraints.
use Rattle.std.specs.Prelude.{◌≡◌, ℕ, ◌+◌, ◌-◌, ◌*◌, ◌/◌, ◌==◌, min, Bool, not, if◌then◌else◌, List, [], ◌∷◌, map, sum_by}
use Rattle.std.specs.List.{filter}
use Rattle.scut_base.specs.Literal.{Literal}
use Rattle.pb_lin.specs.Constraint.{ConstraintValue, IsNormal, value}

-- a literal is at least 0
abbrev pub literal_axiom : Literal → ConstraintValue
literal_axiom l = record { terms = (l, 1) ∷ []; degree = 0 }

-- The sum of p and q in normal form: what complementary literals give at every assignment is cancelled on both sides.
pub record IsSum (r p q : ConstraintValue) : Type 0 where
  pub cancelled : ℕ
  pub same : (a : List Bool) → value a p.terms + value a q.terms ≡ value a r.terms + cancelled
  pub degree : r.degree ≡ (p.degree + q.degree) - cancelled
  pub normal : IsNormal r.terms r.degree

abbrev pub multiplied : ℕ → ConstraintValue → ConstraintValue
multiplied k c = record { terms = map (λ t. (t.0, t.1 * k)) c.terms; degree = c.degree * k }

-- n by k, rounded up
abbrev pub rounded_up : ℕ → ℕ → ℕ
rounded_up n k = (n + (k - 1)) / k

abbrev pub divided : ℕ → ConstraintValue → ConstraintValue
divided k c = record { terms = map (λ t. (t.0, rounded_up t.1 k)) c.terms; degree = rounded_up c.degree k }

-- each coefficient is cut to the degree; a term with coefficient 0 is none
abbrev pub saturated : ConstraintValue → ConstraintValue
saturated c = record { terms = if c.degree == 0 then [] else map (λ t. (t.0, min t.1 c.degree)) c.terms; degree = c.degree }

-- the coefficient of a term of this variable, and else 0
abbrev pub coefficient_in : ℕ → Literal × ℕ → ℕ
coefficient_in var t = if t.0.var == var then t.1 else 0

-- the term of the variable is dropped, and the degree lowered by its coefficient, to no less than 0
abbrev pub weakened : ℕ → ConstraintValue → ConstraintValue
weakened var c = record { terms = filter (λ t. not (t.0.var == var)) c.terms; degree = c.degree - sum_by (coefficient_in var) c.terms }
