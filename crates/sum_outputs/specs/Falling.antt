-- Outputs of a node that were made in falling order of sums.
use Rattle.std.specs.Prelude.{◌≡◌, ◌≢◌, ◌⊎◌, ℕ, ◌+◌, ◌<◌, ◌≤◌, List, ◌++◌, length, All, AllPairs, Contains}
use Rattle.scut_base.specs.Literal.{Literal}
use Rattle.pb_lin.specs.Constraint.{total}
use Rattle.proof_laws.specs.State.{StateValue}
use Rattle.proof_rules.specs.Recording.{Snapshot}
use Rattle.sum_outputs.specs.Totals.{IsAttainable, IsLeastSum, IsUpToLeast, definitions}
use Rattle.sum_outputs.specs.Adding.{IsReached}
use Rattle.sum_outputs.specs.Outputs.{IsDefined}
use Rattle.sum_outputs.specs.Joining.{IsOutputAt, AreOutputsAt, IsCompleteTo}
use Rattle.sum_outputs.specs.Sums.{last_sum}
use Rattle.sum_outputs.specs.declared.sum_output.SumOutput.{SumOutput}

-- outputs of new variables, of which the last has the least sum, above a number
pub record AreFalling (a b : Snapshot) (terms : List (Literal × ℕ)) (low : ℕ) (os : List SumOutput) : Type 0 where
  pub outputs : (t : StateValue) → IsReached b t → All (IsOutputAt b t terms) os
  pub defined : (t : StateValue) → IsReached b t → All (IsDefined b t terms) os
  pub falling : AllPairs (λ o q. q.sum < o.sum) os
  pub above : All (λ o. low < o.sum) os
  pub fresh : (s : StateValue) → IsReached a s → All (λ o. s.vars < o.lit.var) os
  pub apart : AllPairs (λ o q. o.lit.var ≢ q.lit.var) os

-- each sum of the terms from the one number to the other is that of an output
abbrev pub AreAllBetween : List (Literal × ℕ) → ℕ → ℕ → List SumOutput → Type 0
AreAllBetween terms low high os = (m : ℕ) → IsAttainable terms m → low < m → m ≤ high → (o : SumOutput) × Contains os o × (o.sum ≡ m)

-- all that a number and those after it ask for, up to the least sum of at least k, or the greatest, and no more
pub record AreFallingTo (a b : Snapshot) (terms : List (Literal × ℕ)) (low k : ℕ) (os : List SumOutput) : Type 0 where
  pub high : ℕ
  pub are : AreFalling a b terms low os
  pub needed : All (λ o. IsUpToLeast terms k o.sum) os
  pub all : AreAllBetween terms low high os
  pub within : All (λ o. o.sum ≤ high) os
  pub top : (high ≡ low) ⊎ ((o : SumOutput) × Contains os o × (o.sum ≡ high))
  pub enough : (k ≤ high) ⊎ (total terms ≤ high)

-- Outputs of new variables after those that were there, each at a sum up to the least of at least k, so that all these have one.
pub record AreExtended (a b : Snapshot) (terms : List (Literal × ℕ)) (before : List SumOutput) (k : ℕ) (os : List SumOutput) : Type 0 where
  pub more : List SumOutput
  pub is : os ≡ before ++ more
  pub outputs : (t : StateValue) → IsReached b t → AreOutputsAt b t terms os
  pub defined : (t : StateValue) → IsReached b t → All (IsDefined b t terms) os
  pub gapless : AreAllBetween terms 0 (last_sum os) os
  pub complete : IsCompleteTo terms os k
  pub needed : All (λ o. IsUpToLeast terms k o.sum) more
  pub fresh : (s : StateValue) → IsReached a s → All (λ o. s.vars < o.lit.var) more
  pub apart : AllPairs (λ o q. o.lit.var ≢ q.lit.var) more
  pub counted : definitions b.lines + length before ≡ definitions a.lines + length os

-- the same literal stands for the same sum among these
abbrev pub IsKept : List SumOutput → SumOutput → Type 0
IsKept os q = (p : SumOutput) × Contains os p × (p.lit ≡ q.lit) × (p.sum ≡ q.sum)

-- the output's variable is one that no state so far has
abbrev pub IsFresh : Snapshot → SumOutput → Type 0
IsFresh a o = (s : StateValue) → IsReached a s → s.vars < o.lit.var

-- An output among those of a node, for the least sum of at least k; all others were there before, and stay. Where it was
-- there, no line was added.
pub record IsAsked (a b : Snapshot) (terms : List (Literal × ℕ)) (before : List SumOutput) (k : ℕ) (o : SumOutput) (os : List SumOutput) : Type 0 where
  pub there : Contains os o
  pub least : IsLeastSum terms k o.sum
  pub from : o.from ≡ k
  pub outputs : (t : StateValue) → IsReached b t → AreOutputsAt b t terms os
  pub defined : (t : StateValue) → IsReached b t → All (IsDefined b t terms) os
  pub stays : All (IsKept os) before
  pub kept : All (λ q. IsKept before q ⊎ ((q ≡ o) × IsFresh a q)) os
  pub others : All (λ q. (q ≡ o) ⊎ Contains before q) os
  pub counted : definitions b.lines + length before ≡ definitions a.lines + length os
  pub again : (q : SumOutput) → Contains before q → IsLeastSum terms k q.sum → b.lines ≡ a.lines

-- the output, where no sum is from k on and below its own
abbrev pub asked_from : ℕ → SumOutput → SumOutput
asked_from k o = record o { from = k }
