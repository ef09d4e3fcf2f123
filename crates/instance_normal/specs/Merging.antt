-- Coefficients by variable, while terms are merged; nothing of it has to be believed.
use Rattle.std.specs.Prelude.{◌≡◌, ℕ, ◌+◌, ◌^◌, ◌<◌, ◌≤◌, ◌≢◌, Bool, if◌then◌else◌, List, ◌++◌, length, map, sum_by, ℤ, pos, ◌+ℤ◌, unsigned_abs, All, AllPairs}
use Rattle.scut_base.specs.Literal.{Literal}
use Rattle.scut_base.specs.Assignment.{value_of}
use Rattle.instance.specs.Meaning.{int_sum_by}
use Rattle.pb_lin.specs.Constraint.{term_value}
use Rattle.instance_normal.specs.NormalForm.{AreSomeOf}

-- the variables of the sums
abbrev pub variables : List (ℕ × ℤ) → List ℕ
variables sums = map (λ s. s.0) sums

abbrev pub sums_magnitude : List (ℕ × ℤ) → ℕ
sums_magnitude sums = sum_by (λ s. unsigned_abs s.1) sums

-- the coefficient of a true variable, and 0 for a false one
abbrev pub variable_value : List Bool → ℕ × ℤ → ℤ
variable_value a s = if value_of a s.0 then s.1 else pos 0

abbrev pub sums_value : List Bool → List (ℕ × ℤ) → ℤ
sums_value a sums = int_sum_by (variable_value a) sums

-- distinct variables of literals
pub record AreVariables (vars : List ℕ) : Type 0 where
  pub from_one : All (λ v. 0 < v) vars
  pub below : All (λ v. v < 2 ^ 63) vars
  pub distinct : AllPairs (λ v w. v ≢ w) vars

-- what a variable's sum adds to positive terms: nothing where it is 0, and else a term, and a constant
pub record IsSignedTerm (sum : ℕ × ℤ) (old new : List (Literal × ℕ)) (constant : ℤ) : Type 0 where
  pub terms : List (Literal × ℕ)
  pub row : new ≡ old ++ terms
  pub one : length terms ≤ 1
  pub own : All (λ t. t.0.var ≡ sum.0) terms
  pub positive : All (λ t. 0 < t.1) terms
  pub total : sum_by (λ t. t.1) terms ≤ unsigned_abs sum.1
  pub low : unsigned_abs constant ≤ unsigned_abs sum.1
  pub value : (a : List Bool) → pos (sum_by (term_value a) terms) +ℤ constant ≡ variable_value a sum

-- positive terms and an offset that stand for these sums and an offset
pub record StandForSums (sums : List (ℕ × ℤ)) (offset : ℤ) (terms : List (Literal × ℕ)) (left : ℤ) : Type 0 where
  pub value : (a : List Bool) → pos (sum_by (term_value a) terms) +ℤ left ≡ sums_value a sums +ℤ offset
  pub positive : All (λ t. 0 < t.1) terms
  pub from_one : All (λ t. 0 < t.0.var) terms
  pub order : AreSomeOf (map (λ t. t.0.var) terms) (variables sums)
  pub distinct : AllPairs (λ s t. s.0.var ≢ t.0.var) terms
  pub total : sum_by (λ t. t.1) terms ≤ sums_magnitude sums
  pub low : unsigned_abs left ≤ unsigned_abs offset + sums_magnitude sums
