-- How far one left side can be above another.
use Rattle.std.specs.Prelude.{ℕ, ◌-◌, if◌then◌else◌, List, sum_by}
use Rattle.scut_base.specs.Literal.{Literal, is_same}

-- the coefficient of a literal, or 0
abbrev pub coefficient : List (Literal × ℕ) → Literal → ℕ
coefficient terms l = sum_by (λ t. if is_same t.0 l then t.1 else 0) terms

-- the greatest value of the one left side above the other
abbrev pub greatest_excess : List (Literal × ℕ) → List (Literal × ℕ) → ℕ
greatest_excess left right = sum_by (λ t. t.1 - coefficient right t.0) left
