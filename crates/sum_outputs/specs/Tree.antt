-- The tree of a totalizer, as a list of nodes, each after its children.
use Rattle.std.specs.Prelude.{◌≡◌, ◌⊎◌, ℕ, ◌+◌, ◌<◌, ◌≢◌, ◌≤◌, List, ◌++◌, length, slice_index_or, All, Contains}
use Rattle.scut_base.specs.Literal.{Literal}
use Rattle.pb_lin.specs.Constraint.{total}
use Rattle.sum_outputs.specs.Totals.{AreWeights, first_child, second_child}
use Rattle.sum_outputs.specs.declared.node.Node.{Node}
use Rattle.sum_outputs.specs.declared.sum_output.SumOutput.{SumOutput}
use Rattle.sum_outputs.specs.declared.inner.Inner.{Inner}

-- a node over the terms that its children divide among them
pub record IsInner (nodes : List Node) (i : ℕ) (n : Node) : Type 0 where
  pub long : 1 < length n.terms
  pub first_before : n.first < i
  pub second_before : n.second < i
  pub apart : n.first < n.second
  pub first_terms : (d : Node) → (slice_index_or nodes n.first d).terms ≡ first_child n.terms
  pub second_terms : (d : Node) → (slice_index_or nodes n.second d).terms ≡ second_child n.terms

pub record IsNode (nodes : List Node) (i : ℕ) (n : Node) : Type 0 where
  pub weights : AreWeights n.terms
  pub all : n.total ≡ total n.terms
  pub shape : (length n.terms ≡ 1) ⊎ IsInner nodes i n

abbrev pub IsTree : List Node → Type 0
IsTree nodes = (i : ℕ) (d : Node) → i < length nodes → IsNode nodes i (slice_index_or nodes i d)

-- a node of the tree with its children's terms and outputs
pub record IsInnerOf (nodes : List Node) (made : List (List SumOutput)) (n : Node) (node : Inner) : Type 0 where
  pub terms : node.terms.now ≡ n.terms
  pub first_terms : (d : Node) → node.first.terms.now ≡ (slice_index_or nodes n.first d).terms
  pub second_terms : (d : Node) → node.second.terms.now ≡ (slice_index_or nodes n.second d).terms
  pub firsts : (os : List SumOutput) → node.first.outputs.now ≡ slice_index_or made n.first os
  pub seconds : (os : List SumOutput) → node.second.outputs.now ≡ slice_index_or made n.second os

-- the node at i is a child of the node at j
abbrev pub IsChildOf : List Node → ℕ → ℕ → Type 0
IsChildOf nodes i j = (d : Node) → (1 < length (slice_index_or nodes j d).terms)
    × ((i ≡ (slice_index_or nodes j d).first) ⊎ (i ≡ (slice_index_or nodes j d).second))

-- the nodes at i and j have one term each, of different variables
abbrev pub AreLeavesApart : List Node → ℕ → ℕ → Type 0
AreLeavesApart nodes i j = (d : Node) → length (slice_index_or nodes i d).terms ≡ 1 → length (slice_index_or nodes j d).terms ≡ 1
    → All (λ s. All (λ t. s.0.var ≢ t.0.var) (slice_index_or nodes j d).terms) (slice_index_or nodes i d).terms

-- Nodes were put after the others: a tree of parts of these terms, whose root is the last and has them all.
pub record IsGrown (before now : List Node) (terms : List (Literal × ℕ)) (at : ℕ) : Type 0 where
  pub more : List Node
  pub is : now ≡ before ++ more
  pub tree : IsTree now
  pub last : at + 1 ≡ length now
  pub from : length before < length now
  pub has : (d : Node) → (slice_index_or now at d).terms ≡ terms
  pub among : All (λ n. All (Contains terms) n.terms) more
  pub parents : (i : ℕ) → length before ≤ i → i < at → (j : ℕ) × (j < length now) × IsChildOf now i j
  pub leaves_apart : (i j : ℕ) → length before ≤ i → i < j → j < length now → AreLeavesApart now i j
