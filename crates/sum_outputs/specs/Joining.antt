-- A node and the outputs of its two children.
use Rattle.std.specs.Prelude.{◌≡◌, ◌≢◌, ◌⊎◌, ℕ, ◌+◌, ◌-◌, ◌<◌, ◌≤◌, Bool, true, Option, None, Some, List, [], ◌∷◌, ◌++◌, length, slice_index_or, All, Contains}
use Rattle.scut_base.specs.Literal.{Literal}
use Rattle.scut_base.specs.Assignment.{lit_true}
use Rattle.pb_lin.specs.Constraint.{IsVariable, total, value}
use Rattle.proof_laws.specs.State.{StateValue}
use Rattle.proof_rules.specs.Recording.{Snapshot}
use Rattle.sum_outputs.specs.Totals.{AreWeights, IsAttainable}
use Rattle.sum_outputs.specs.Adding.{IsReached, IsReady, KeptHold, Always, DefinesMore}
use Rattle.sum_outputs.specs.Outputs.{IsDefined, IsLiteralOf, AreRising, Imply}
use Rattle.sum_outputs.specs.declared.sum_output.SumOutput.{SumOutput}
use Rattle.sum_outputs.specs.declared.inner.Inner.{Inner}

-- where the sum reaches the output's, its literal is true
abbrev pub Follows : Snapshot → StateValue → List (Literal × ℕ) → SumOutput → Type 0
Follows a s terms o = (x : List Bool) → KeptHold a.problem a.lines s x → o.sum ≤ value x terms → lit_true x o.lit ≡ true

-- an output of the node of these terms
pub record IsOutputAt (a : Snapshot) (s : StateValue) (terms : List (Literal × ℕ)) (o : SumOutput) : Type 0 where
  pub literal : IsLiteralOf a s terms o
  pub attainable : IsAttainable terms o.sum
  pub gap : (m : ℕ) → IsAttainable terms m → o.from ≤ m → o.sum ≤ m
  pub follows : Follows a s terms o

-- the outputs of the node
pub record AreOutputsAt (a : Snapshot) (s : StateValue) (terms : List (Literal × ℕ)) (os : List SumOutput) : Type 0 where
  pub each : All (IsOutputAt a s terms) os
  pub rising : AreRising os

-- Each sum of the terms is that of an output, or an output's sum of at least k is below it.
abbrev pub IsCompleteTo : List (Literal × ℕ) → List SumOutput → ℕ → Type 0
IsCompleteTo terms os k = (m : ℕ) → IsAttainable terms m → 0 < m →
    ((o : SumOutput) × Contains os o × (o.sum ≡ m)) ⊎ ((o : SumOutput) × Contains os o × (k ≤ o.sum) × (o.sum ≤ m))

-- two children of a node, and their outputs
pub record AreChildren (a : Snapshot) (s : StateValue) (first second : List (Literal × ℕ)) (firsts seconds : List SumOutput) : Type 0 where
  pub weights : AreWeights (first ++ second)
  pub variables : All (λ t. IsVariable s.vars t.0.var) (first ++ second)
  pub of_first : AreOutputsAt a s first firsts
  pub of_second : AreOutputsAt a s second seconds
  pub apart : All (λ f. All (λ g. f.lit.var ≢ g.lit.var) seconds) firsts
  pub first_outside : All (λ f. All (λ t. f.lit.var ≢ t.0.var) second) firsts
  pub second_outside : All (λ g. All (λ t. g.lit.var ≢ t.0.var) first) seconds

abbrev pub AreChildrenNow : Snapshot → Inner → Type 0
AreChildrenNow a node = (s : StateValue) → IsReached a s
    → AreChildren a s node.first.terms.now node.second.terms.now node.first.outputs.now node.second.outputs.now

-- The children have what outputs of the node at sums up to the least of at least k are made of.
pub record IsInnerAt (a : Snapshot) (node : Inner) (k : ℕ) : Type 0 where
  pub children : AreChildrenNow a node
  pub first_complete : IsCompleteTo node.first.terms.now node.first.outputs.now k
  pub second_complete : IsCompleteTo node.second.terms.now node.second.outputs.now k

-- outputs of the node at sums up to the least of at least k may be made
pub record MayMake (a : Snapshot) (node : Inner) (k : ℕ) : Type 0 where
  pub ready : IsReady a
  pub inner : IsInnerAt a node k
  pub from_one : 0 < k

-- a literal that was defined by a node's terms, apart from all that its children have
pub record IsTarget (a : Snapshot) (s : StateValue) (terms : List (Literal × ℕ)) (firsts seconds : List SumOutput) (target : SumOutput) : Type 0 where
  pub defined : IsDefined a s terms target
  pub some : 0 < target.sum
  pub variable : IsVariable s.vars target.lit.var
  pub outside : All (λ t. target.lit.var ≢ t.0.var) terms
  pub from_firsts : All (λ f. f.lit.var ≢ target.lit.var) firsts
  pub from_seconds : All (λ g. g.lit.var ≢ target.lit.var) seconds

abbrev pub IsTargetNow : Snapshot → Inner → SumOutput → Type 0
IsTargetNow a node target = (s : StateValue) → IsReached a s
    → IsTarget a s (node.first.terms.now ++ node.second.terms.now) node.first.outputs.now node.second.outputs.now target

-- the least output whose sum is at least one number and below another, where there is one
abbrev pub IsLeastBetween : List SumOutput → ℕ → ℕ → Option SumOutput → Type 0
IsLeastBetween os from below None = All (λ o. from ≤ o.sum → below ≤ o.sum) os
IsLeastBetween os from below (Some q) = Contains os q × (from ≤ q.sum) × (q.sum < below) × All (λ o. from ≤ o.sum → q.sum ≤ o.sum) os

-- for each output whose sum is at least one number and below another there is one of no greater sum with a property
abbrev pub HaveLesser : List SumOutput → ℕ → ℕ → (SumOutput → Type 0) → Type 0
HaveLesser os from below P = (o : SumOutput) → Contains os o → from ≤ o.sum → o.sum < below → (q : SumOutput) × Contains os q × (q.sum ≤ o.sum) × P q

-- for each output whose sum is at least the target's and below a number there is one of no greater sum that implies the target
abbrev pub SinglesImply : Snapshot → List SumOutput → SumOutput → ℕ → Type 0
SinglesImply a parts target below = HaveLesser parts target.sum below (λ q. Always a (Imply (q ∷ []) target))

-- for each partner with which an output reaches the target's sum, both below a number, there is one of no greater sum with which it implies the target
abbrev pub PairsImply : Snapshot → SumOutput → List SumOutput → SumOutput → ℕ → Type 0
PairsImply a part others target below = HaveLesser others (target.sum - part.sum) (below - part.sum) (λ q. Always a (Imply (part ∷ q ∷ []) target))

-- the children's outputs, alone or in pairs, whose sums are at least the target's and below a number imply it, by ones of no greater sums
pub record AreImplying (a : Snapshot) (node : Inner) (target : SumOutput) (below : ℕ) : Type 0 where
  pub by_firsts : SinglesImply a node.first.outputs.now target below
  pub by_seconds : SinglesImply a node.second.outputs.now target below
  pub by_pairs : All (λ o. o.sum < target.sum → PairsImply a o node.second.outputs.now target below) node.first.outputs.now

-- ---- one output more

abbrev pub AreOutputsNow : Snapshot → List (Literal × ℕ) → List SumOutput → Type 0
AreOutputsNow a terms os = (s : StateValue) → IsReached a s → AreOutputsAt a s terms os

-- outputs of a node that its terms define
pub record AreDefinedNow (a : Snapshot) (terms : List (Literal × ℕ)) (os : List SumOutput) : Type 0 where
  pub outputs : AreOutputsNow a terms os
  pub defined : (s : StateValue) → IsReached a s → All (IsDefined a s terms) os

-- the number is above all sums of the terms, or is that of the first output
abbrev pub IsAboveAll : List (Literal × ℕ) → List SumOutput → ℕ → Type 0
IsAboveAll terms os below = (total terms < below) ⊎ ((0 < length os) × ((d : SumOutput) → (slice_index_or os 0 d).sum ≡ below))

-- an output of these terms, whose variable is new
pub record IsNewOutput (a b : Snapshot) (terms : List (Literal × ℕ)) (o : SumOutput) : Type 0 where
  pub fresh : (s : StateValue) → IsReached a s → o.lit.var ≡ s.vars + 1
  pub is : (t : StateValue) → IsReached b t → IsOutputAt b t terms o
  pub defined : (t : StateValue) → IsReached b t → IsDefined b t terms o

-- such an output of the sum n, and nothing else was defined; no sum of the terms is from k on and below n
pub record IsMade (a b : Snapshot) (terms : List (Literal × ℕ)) (k n : ℕ) (o : SumOutput) : Type 0 where
  pub sum : o.sum ≡ n
  pub from : o.from ≡ k
  pub new : IsNewOutput a b terms o
  pub one : DefinesMore a b 1
