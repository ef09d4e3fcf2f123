-- Sums that outputs have together.
use Rattle.std.specs.Prelude.{◌≡◌, ◌⊎◌, ℕ, ◌+◌, ◌<◌, ◌≤◌, min, List, [], ◌∷◌, Contains, Option, Some, None}
use Rattle.pb_lin.specs.Constraint.{total}
use Rattle.sum_outputs.specs.declared.sum_output.SumOutput.{SumOutput}
use Rattle.sum_outputs.specs.declared.inner.Inner.{Inner}

-- 0, or the sum of an output
abbrev pub HasSum : List SumOutput → ℕ → Type 0
HasSum os m = (m ≡ 0) ⊎ ((o : SumOutput) × Contains os o × (o.sum ≡ m))

-- with a number, no sum is as large
abbrev pub NoneWith : ℕ → List SumOutput → ℕ → Type 0
NoneWith base os k = (q : ℕ) → HasSum os q → base + q < k

-- with a number, the least that is as large
pub record IsLeastWith (base : ℕ) (os : List SumOutput) (k r : ℕ) : Type 0 where
  pub sum : ℕ
  pub has : HasSum os sum
  pub is : r ≡ base + sum
  pub reaches : k ≤ r
  pub least : (q : ℕ) → HasSum os q → k ≤ base + q → r ≤ base + q

-- the least of the total and all sums of both together that are as large
pub record IsLeastOf (firsts seconds : List SumOutput) (k total r : ℕ) : Type 0 where
  pub is : (r ≡ total) ⊎ ((p : ℕ) × (q : ℕ) × HasSum firsts p × HasSum seconds q × (r ≡ p + q))
  pub reaches : k ≤ r
  pub most : r ≤ total
  pub least : (p q : ℕ) → HasSum firsts p → HasSum seconds q → k ≤ p + q → r ≤ p + q

abbrev pub IsLessOf : ℕ → Option ℕ → ℕ → Type 0
IsLessOf number None r = r ≡ number
IsLessOf number (Some other) r = r ≡ min number other

-- ---- sums in a row

-- From one number to another, each with the least sum that is greater than the one before; the numbers that follow those before are at most k.
abbrev pub IsRun : Inner → ℕ → ℕ → List (ℕ × ℕ) → ℕ → Type 0
IsRun node k last [] end = end ≡ last
IsRun node k last (s ∷ rest) end = (s.0 ≡ last + 1) × (s.0 ≤ k)
    × IsLeastOf node.first.outputs.now node.second.outputs.now s.0 (total node.terms.now) s.1 × IsRun node k s.1 rest end

-- up to the least of at least k, or the greatest
abbrev pub IsRunTo : Inner → ℕ → ℕ → List (ℕ × ℕ) → Type 0
IsRunTo node last k sums = (end : ℕ) × IsRun node k last sums end × (end ≤ total node.terms.now)
    × ((k ≤ end) ⊎ (total node.terms.now ≤ end))

-- the sum of the last output, or 0
abbrev pub last_sum : List SumOutput → ℕ
last_sum [] = 0
last_sum (o ∷ []) = o.sum
last_sum (o ∷ p ∷ os) = last_sum (p ∷ os)
