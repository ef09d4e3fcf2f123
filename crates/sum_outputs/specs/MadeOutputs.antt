-- The outputs of all nodes of a tree.
use Rattle.std.specs.Prelude.{◌≡◌, ◌≢◌, ◌⊎◌, ℕ, ◌+◌, ◌<◌, min, List, length, slice_index_or, sum_by, All, Contains}
use Rattle.scut_base.specs.Literal.{Literal}
use Rattle.pb_lin.specs.Constraint.{IsVariable, total}
use Rattle.proof_laws.specs.State.{StateValue}
use Rattle.proof_rules.specs.Recording.{Snapshot}
use Rattle.sum_outputs.specs.Adding.{IsReached, IsReady}
use Rattle.sum_outputs.specs.Outputs.{IsDefined}
use Rattle.sum_outputs.specs.Joining.{AreOutputsAt, IsCompleteTo}
use Rattle.sum_outputs.specs.Sums.{last_sum}
use Rattle.sum_outputs.specs.Totals.{IsUpToLeast, definitions}
use Rattle.sum_outputs.specs.Falling.{AreAllBetween, IsFresh}
use Rattle.sum_outputs.specs.Tree.{IsInner, IsTree}
use Rattle.sum_outputs.specs.declared.node.Node.{Node}
use Rattle.sum_outputs.specs.declared.sum_output.SumOutput.{SumOutput}

-- the variables of these outputs are none of the terms'
abbrev pub AreOutside : List SumOutput → List (Literal × ℕ) → Type 0
AreOutside os terms = All (λ o. All (λ t. o.lit.var ≢ t.0.var) terms) os

-- Each node has outputs, of variables of their own; those of a child are none of its sibling's terms.
pub record AreMade (a : Snapshot) (s : StateValue) (nodes : List Node) (made : List (List SumOutput)) : Type 0 where
  pub size : length made ≡ length nodes
  pub variables : (i : ℕ) (n : Node) → i < length nodes → All (λ t. IsVariable s.vars t.0.var) (slice_index_or nodes i n).terms
  pub outputs : (i : ℕ) (n : Node) (os : List SumOutput) → i < length nodes → AreOutputsAt a s (slice_index_or nodes i n).terms (slice_index_or made i os)
  pub defined : (i : ℕ) (n : Node) (os : List SumOutput) → i < length nodes → 1 < length (slice_index_or nodes i n).terms → All (IsDefined a s (slice_index_or nodes i n).terms) (slice_index_or made i os)
  -- the root, which is last, has the outputs that were asked for; every other node has all up to its last
  pub gapless : (i : ℕ) (n : Node) (os : List SumOutput) → i + 1 < length nodes → AreAllBetween (slice_index_or nodes i n).terms 0 (last_sum (slice_index_or made i os)) (slice_index_or made i os)
  pub leaves : (i : ℕ) (n : Node) (os : List SumOutput) (k : ℕ) → i < length nodes → length (slice_index_or nodes i n).terms ≡ 1 → IsCompleteTo (slice_index_or nodes i n).terms (slice_index_or made i os) k
  pub apart : (i j : ℕ) (os ps : List SumOutput) → i < length nodes → j < length nodes → i ≢ j → All (λ o. All (λ p. o.lit.var ≢ p.lit.var) (slice_index_or made j ps)) (slice_index_or made i os)
  pub first_outside : (i : ℕ) (n m : Node) (os : List SumOutput) → i < length nodes → IsInner nodes i (slice_index_or nodes i n)
      → AreOutside (slice_index_or made (slice_index_or nodes i n).first os) (slice_index_or nodes (slice_index_or nodes i n).second m).terms
  pub second_outside : (i : ℕ) (n m : Node) (os : List SumOutput) → i < length nodes → IsInner nodes i (slice_index_or nodes i n)
      → AreOutside (slice_index_or made (slice_index_or nodes i n).second os) (slice_index_or nodes (slice_index_or nodes i n).first m).terms

abbrev pub AreMadeNow : Snapshot → List Node → List (List SumOutput) → Type 0
AreMadeNow a nodes made = (s : StateValue) → IsReached a s → AreMade a s nodes made

-- the first nodes have all outputs up to the least of at least k
abbrev pub AreCompleteTo : List Node → List (List SumOutput) → ℕ → ℕ → Type 0
AreCompleteTo nodes made count k = (i : ℕ) (n : Node) (os : List SumOutput) → i < count → IsCompleteTo (slice_index_or nodes i n).terms (slice_index_or made i os) k

-- how many outputs there are
abbrev pub count_outputs : List (List SumOutput) → ℕ
count_outputs made = sum_by length made

-- an output of the node at i that was made: at one of its sums up to the least of at least k, with a new variable
pub record IsNeeded (a : Snapshot) (nodes : List Node) (i k : ℕ) (o : SumOutput) : Type 0 where
  pub inner : (n : Node) → 1 < length (slice_index_or nodes i n).terms
  pub below_root : i + 1 < length nodes
  pub sum : (n : Node) → IsUpToLeast (slice_index_or nodes i n).terms k o.sum
  pub fresh : IsFresh a o

-- Nodes below the root have the outputs that were there, and those that are needed.
pub record AreGrownTo (a : Snapshot) (nodes : List Node) (before now : List (List SumOutput)) (k : ℕ) : Type 0 where
  pub size : length now ≡ length before
  pub stays : (i : ℕ) (os ps : List SumOutput) → i < length nodes → All (Contains (slice_index_or now i ps)) (slice_index_or before i os)
  pub needed : (i : ℕ) (os ps : List SumOutput) → i < length nodes
      → All (λ o. Contains (slice_index_or before i os) o ⊎ IsNeeded a nodes i k o) (slice_index_or now i ps)

-- The first nodes have got all outputs up to the least of at least k, with a definition for each that is new; and where
-- they had them, no line was added.
pub record ExtendsTo (a b : Snapshot) (nodes : List Node) (before now : List (List SumOutput)) (count k : ℕ) : Type 0 where
  pub made : AreMadeNow b nodes now
  pub complete : AreCompleteTo nodes now count k
  pub grown : AreGrownTo a nodes before now k
  pub defined : definitions b.lines + count_outputs before ≡ definitions a.lines + count_outputs now
  pub again : AreCompleteTo nodes before count k → b.lines ≡ a.lines

-- a node below the root, with all nodes before it complete
pub record MayExtend (a : Snapshot) (nodes : List Node) (outputs : List (List SumOutput)) (at k : ℕ) : Type 0 where
  pub ready : IsReady a
  pub tree : IsTree nodes
  pub below : at + 1 < length nodes
  pub made : AreMadeNow a nodes outputs
  pub complete : AreCompleteTo nodes outputs at k
  pub from_one : 0 < k

-- the node has children, and not all outputs up to the least of at least k
pub record LacksOutputs (nodes : List Node) (made : List (List SumOutput)) (i k : ℕ) : Type 0 where
  pub long : (n : Node) → 1 < length (slice_index_or nodes i n).terms
  pub low : (n : Node) (os : List SumOutput) → last_sum (slice_index_or made i os) < min k (total (slice_index_or nodes i n).terms)
