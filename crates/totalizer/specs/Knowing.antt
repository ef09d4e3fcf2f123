-- What a totalizer answers with no output more.
use Rattle.std.specs.Prelude.{◌≡◌, ◌⊎◌, ℕ, ◌-◌, ◌<◌, ◌≤◌, List, [], ◌∷◌, length, slice_index_or, All, Contains}
use Rattle.scut_base.specs.Literal.{Literal}
use Rattle.sum_outputs.specs.Totals.{IsLeastSum}
use Rattle.sum_outputs.specs.Tree.{AreLeavesApart}
use Rattle.sum_outputs.specs.declared.node.Node.{Node}
use Rattle.sum_outputs.specs.declared.sum_output.SumOutput.{SumOutput}
use Rattle.totalizer.specs.declared.bound.Bound.{Bound}
use Rattle.totalizer.specs.declared.bound.Bound.TheVariants.{At}
use Rattle.totalizer.specs.Totalizing.{TotalizerValue, root_terms, terms_of, IsRooted}

-- The literal of the only term, or one that stands for a sum of at least k, where no sum is from k on and below it.
abbrev pub IsKnown : List (Literal × ℕ) → List SumOutput → ℕ → Bound → Type 0
IsKnown terms os k (At l id) = ((weight : ℕ) × (terms ≡ (l, weight) ∷ []) × (id ≡ 0))
    ⊎ ((o : SumOutput) × (1 < length terms) × Contains os o × (o.from ≤ k) × (k ≤ o.sum) × (o.lit ≡ l) × (o.lower ≡ id))
IsKnown terms os k bound = ⊥

-- there is more than one term, and no output stands for "the sum is at least k"
pub record IsUnknown (terms : List (Literal × ℕ)) (os : List SumOutput) (k : ℕ) : Type 0 where
  pub long : 1 < length terms
  pub none : All (λ o. o.from ≤ k → o.sum < k) os

-- the outputs of the root that are there
abbrev pub root_outputs : TotalizerValue → List SumOutput
root_outputs t = slice_index_or t.made (length t.nodes - 1) []

-- the root's output stands for "the sum is at least k": its sum is the least of at least k
abbrev pub IsMadeFor : TotalizerValue → ℕ → SumOutput → Type 0
IsMadeFor t k o = Contains (root_outputs t) o × IsLeastSum (terms_of t) k o.sum

-- none does
abbrev pub IsUnmade : TotalizerValue → ℕ → Type 0
IsUnmade t k = All (λ o. o.from ≤ k → o.sum < k) (root_outputs t)

-- ---- nodes of a new totalizer

-- a tree of these terms, whose leaves have one of them each
pub record AreNodesOf (terms : List (Literal × ℕ)) (nodes : List Node) : Type 0 where
  pub root : root_terms nodes ≡ terms
  pub rooted : IsRooted nodes
  pub among : All (λ n. All (Contains terms) n.terms) nodes
  pub leaves_apart : (i j : ℕ) → i < j → j < length nodes → AreLeavesApart nodes i j
