-- Weighted sums of literals.
use Rattle.std.specs.Prelude.{◌≡◌, ◌≢◌, ℕ, ◌+◌, ◌/◌, ◌<◌, ◌≤◌, ◌^◌, Bool, true, false, List, length, take, drop, All, AllPairs}
use Rattle.std.specs.List.{count_by}
use Rattle.scut_base.specs.Literal.{Literal}
use Rattle.pb_lin.specs.Constraint.{total, value}
use Rattle.proof_laws.specs.declared.line.Line.{Line}
use Rattle.proof_laws.specs.declared.line.Line.TheVariants.{Def}
pub use Rattle.recording.specs.Recorded.{IsKeptClause}

-- positive weights that sum below 2^63, on literals of distinct variables
pub record AreWeights (terms : List (Literal × ℕ)) : Type 0 where
  pub positive : All (λ t. 0 < t.1) terms
  pub from_one : All (λ t. 0 < t.0.var) terms
  pub apart : AllPairs (λ s t. s.0.var ≢ t.0.var) terms
  pub small : total terms < 2 ^ 63

-- some of the weights have this sum
abbrev pub IsAttainable : List (Literal × ℕ) → ℕ → Type 0
IsAttainable terms n = (x : List Bool) × (value x terms ≡ n)

-- the least sum of weights that is at least k
pub record IsLeastSum (terms : List (Literal × ℕ)) (k n : ℕ) : Type 0 where
  pub attainable : IsAttainable terms n
  pub reaches : k ≤ n
  pub least : (m : ℕ) → IsAttainable terms m → k ≤ m → n ≤ m

-- n is a sum of these weights above 0, up to the least one that is at least k, if there is one
pub record IsUpToLeast (terms : List (Literal × ℕ)) (k n : ℕ) : Type 0 where
  pub attainable : IsAttainable terms n
  pub some : 0 < n
  pub least : (m : ℕ) → IsAttainable terms m → k ≤ m → n ≤ m

-- ---- the terms under a node's children

-- How many of m terms stand under the first child of a node.
abbrev pub first_half : ℕ → ℕ
first_half m = (m + 1) / 2

abbrev pub first_child : List (Literal × ℕ) → List (Literal × ℕ)
first_child terms = take (first_half (length terms)) terms

abbrev pub second_child : List (Literal × ℕ) → List (Literal × ℕ)
second_child terms = drop (first_half (length terms)) terms

-- ---- lines

-- The line defines a variable that is true exactly where the sum of the terms is at least n.
abbrev pub Defines : Line → List (Literal × ℕ) → ℕ → Type 0
Defines (Def var sum) terms n = (sum.degree ≡ n) × ((x : List Bool) → value x sum.terms ≡ value x terms)
Defines line terms n = ⊥

abbrev pub is_definition : Line → Bool
is_definition (Def var sum) = true
is_definition line = false

-- how many definitions are among the lines
abbrev pub definitions : List Line → ℕ
definitions lines = count_by is_definition lines
