-- Sums to be minimised.
use Rattle.std.specs.Prelude.{ℕ, ◌^◌, ◌<◌, ◌≢◌, Bool, List, All, AllPairs, ℤ, pos, ◌+ℤ◌, ◌<ℤ◌, unsigned_abs}
use Rattle.scut_base.specs.Literal.{Literal}
use Rattle.pb_lin.specs.Constraint.{total, value}

-- a sum of positive coefficients on literals of distinct variables, plus an offset
pub record CostRowValue : Type 0 where
  pub terms : List (Literal × ℕ)
  pub offset : ℤ

-- The coefficients sum below 2^63, and each value of the row has a magnitude below 2^63.
pub record IsCostRow (terms : List (Literal × ℕ)) (offset : ℤ) : Type 0 where
  pub positive : All (λ t. 0 < t.1) terms
  pub from_one : All (λ t. 0 < t.0.var) terms
  pub distinct : AllPairs (λ s t. s.0.var ≢ t.0.var) terms
  pub small : total terms < 2 ^ 63
  pub least : unsigned_abs offset < 2 ^ 63
  pub greatest : (offset +ℤ pos (total terms)) <ℤ pos (2 ^ 63)

-- the value of a row under an assignment
abbrev pub row_cost : List Bool → CostRowValue → ℤ
row_cost a row = pos (value a row.terms) +ℤ row.offset
