-- A totalizer, and when it may be asked.
use Rattle.std.specs.Prelude.{◌≡◌, ℕ, ◌+◌, ◌-◌, ◌<◌, List, [], ◌∷◌, length, map, slice_index_or, All, Contains}
use Rattle.scut_base.specs.Literal.{Literal}
use Rattle.pb_lin.specs.Constraint.{IsVariable}
use Rattle.proof_laws.specs.State.{StateValue}
use Rattle.proof_rules.specs.Recording.{Snapshot}
use Rattle.sum_outputs.specs.Adding.{IsReached}
use Rattle.sum_outputs.specs.Tree.{IsChildOf, IsTree}
use Rattle.sum_outputs.specs.Leaves.{leaf_output}
use Rattle.sum_outputs.specs.MadeOutputs.{AreCompleteTo, AreMadeNow}
use Rattle.sum_outputs.specs.declared.node.Node.{Node}
use Rattle.sum_outputs.specs.declared.sum_output.SumOutput.{SumOutput}

-- the nodes of the tree, and the outputs of each
pub record TotalizerValue : Type 0 where
  pub nodes : List Node
  pub made : List (List SumOutput)

-- the terms of the root, which is the last node; none where there is no node
abbrev pub root_terms : List Node → List (Literal × ℕ)
root_terms [] = []
root_terms (n ∷ []) = n.terms
root_terms (n ∷ m ∷ nodes) = root_terms (m ∷ nodes)

abbrev pub terms_of : TotalizerValue → List (Literal × ℕ)
terms_of t = root_terms t.nodes

-- a tree in which each node but the last is a child
pub record IsRooted (nodes : List Node) : Type 0 where
  pub tree : IsTree nodes
  pub parents : (i : ℕ) → i + 1 < length nodes → (j : ℕ) × (j < length nodes) × IsChildOf nodes i j

-- Its outputs mean what they should in the state that is reached, and what those of the root stand on is there.
pub record Fits (a : Snapshot) (t : TotalizerValue) : Type 0 where
  pub rooted : IsRooted t.nodes
  pub made : AreMadeNow a t.nodes t.made
  pub asked : (o : SumOutput) (d : List SumOutput) → Contains (slice_index_or t.made (length t.nodes - 1) d) o
      → AreCompleteTo t.nodes t.made (length t.nodes - 1) o.from

-- a recorder's lines, which reach a state, made it
abbrev pub FitsSome : TotalizerValue → Type 0
FitsSome t = (a : Snapshot) × (s : StateValue) × IsReached a s × Fits a t

-- ---- a new totalizer

-- the literal of a node of one term
abbrev pub first_outputs : List (Literal × ℕ) → List SumOutput
first_outputs (t ∷ []) = leaf_output t ∷ []
first_outputs terms = []

pub record IsBuilt (given : List (Literal × ℕ)) (t : TotalizerValue) : Type 0 where
  pub terms : terms_of t ≡ given
  pub rooted : IsRooted t.nodes
  pub made : t.made ≡ map (λ n. first_outputs n.terms) t.nodes

-- the variables of the terms are those of the state that is reached
abbrev pub HasVariables : Snapshot → List (Literal × ℕ) → Type 0
HasVariables a terms = (s : StateValue) → IsReached a s → All (λ t. IsVariable s.vars t.0.var) terms
