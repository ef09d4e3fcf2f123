-- The root of a totalizer's tree, and the sums of the nodes below it.
use Rattle.std.proofs.Common.{◌≡◌, ⊎_elim, ℕ, zero, suc, ◌+◌, ◌-◌, ◌<◌, ◌≤◌, List, [], ◌∷◌, ◌++◌, length, get_or, refl, ap, sym, subst, ◌∙◌, arith}
use Rattle.std.proofs.lemmas.Bool.{cases_lt}
use Rattle.pb_lin.specs.Constraint.{total}
use Rattle.cutting_planes.proofs.Terms.{Terms}
use Rattle.sum_outputs.specs.Totals.{AreWeights, IsAttainable}
use Rattle.sum_outputs.specs.Tree.{IsChildOf, IsInner}
use Rattle.sum_outputs.specs.declared.node.Node.{Node}
use Rattle.sum_outputs.proofs.Attaining.{attain_first, attain_second}
use Rattle.sum_outputs.proofs.MadeLists.{any_node, inner_of, terms_divide}
use Rattle.totalizer.specs.Totalizing.{root_terms, IsRooted}

-- there is a node where there are terms, or weights
pub some_nodes : (nodes : List Node) → 0 < length (root_terms nodes) → 0 < length nodes
some_nodes [] more = absurd (omega arith)
some_nodes (n ∷ nodes) more = omega arith

pub weighty_nodes : (nodes : List Node) → 0 < total (root_terms nodes) → 0 < length nodes
weighty_nodes [] more = absurd (omega arith)
weighty_nodes (n ∷ nodes) more = omega arith

-- the root's terms are those of the last node
pub root_is : (nodes : List Node) (d : Node) → 0 < length nodes →
    root_terms nodes ≡ (get_or nodes (length nodes - 1) d).terms
root_is [] d some = absurd (omega arith)
root_is (n ∷ []) d some = refl
root_is (n ∷ m ∷ nodes) d some =
    root_is (m ∷ nodes) d (omega arith)
    ∙ ap (λ (j : ℕ). (get_or (n ∷ m ∷ nodes) j d).terms)
    (let e : suc (length (m ∷ nodes) - 1) ≡ length (n ∷ m ∷ nodes) - 1 = omega arith in e)

module _ (nodes : List Node) (rooted : IsRooted nodes) where
  module _ (i j : ℕ) (short : j < length nodes) (child : IsChildOf nodes i j) where
    abbrev parent : Node
    parent = get_or nodes j any_node

    inner : IsInner nodes j parent
    inner = inner_of nodes rooted.tree j any_node short (let c = child any_node in c.0)

    before_parent : i < j
    before_parent =
        let b = inner.first_before in
        let b' = inner.second_before in
        let c = child any_node in
        ⊎_elim (λ (e : i ≡ parent.first). omega arith) (λ (e : i ≡ parent.second). omega arith) c.1

    abbrev firsts : Terms
    firsts = (get_or nodes parent.first any_node).terms

    abbrev seconds : Terms
    seconds = (get_or nodes parent.second any_node).terms

    divided : parent.terms ≡ firsts ++ seconds
    divided = terms_divide nodes rooted.tree j any_node any_node short inner

    both : AreWeights (firsts ++ seconds)
    both = subst (λ (ts : Terms). AreWeights ts) divided (rooted.tree j any_node short).weights

    -- a sum of the one is a sum of the other
    attain_parent : (m : ℕ) → IsAttainable (get_or nodes i any_node).terms m → IsAttainable parent.terms m
    attain_parent m can =
        let c = child any_node in
        let At : ℕ → Type 0 = λ h. IsAttainable (get_or nodes h any_node).terms m in
        subst (λ (ts : Terms). IsAttainable ts m) (sym divided) (⊎_elim
        (λ (e : i ≡ parent.first). attain_first firsts seconds both m (subst At e can))
        (λ (e : i ≡ parent.second). attain_second firsts seconds both m (subst At e can))
        c.1)

  attain_above : (left i m : ℕ) → length nodes ≤ (i + 1) + left → i < length nodes →
      IsAttainable (get_or nodes i any_node).terms m → IsAttainable (get_or nodes (length nodes - 1) any_node).terms m
  attain_above zero i m near short can = subst (λ (h : ℕ). IsAttainable (get_or nodes h any_node).terms m)
      (let e : i ≡ length nodes - 1 = omega arith in e) can
  attain_above (suc left) i m near short can = ⊎_elim
      (λ (below : i + 1 < length nodes).
      let up = rooted.parents i below in
      let before = before_parent i up.0 up.1 up.2 in
      attain_above left up.0 m (omega arith) up.1 (attain_parent i up.0 up.1 up.2 m can))
      (λ (last : length nodes ≤ i + 1). subst (λ (h : ℕ). IsAttainable (get_or nodes h any_node).terms m)
      (let e : i ≡ length nodes - 1 = omega arith in e) can)
      (cases_lt (i + 1) (length nodes))

  -- a sum of a node is one of the root
  pub attain_root : (i m : ℕ) → i < length nodes → IsAttainable (get_or nodes i any_node).terms m →
      IsAttainable (root_terms nodes) m
  attain_root i m short can = subst (λ (ts : Terms). IsAttainable ts m)
      (sym (root_is nodes any_node (omega arith))) (attain_above (length nodes) i m (omega arith) short can)

  -- a root of one term has no other nodes beside it
  pub alone : length (root_terms nodes) ≡ 1 → 0 < length nodes → length nodes ≡ 1
  alone one some = ⊎_elim
      (λ (more : 1 < length nodes).
      let i = length nodes - 2 in
      let up = rooted.parents i (omega arith) in
      let before = before_parent i up.0 up.1 up.2 in
      let c = up.2 any_node in
      let last : up.0 ≡ length nodes - 1 = omega arith in
      let same : length (get_or nodes up.0 any_node).terms ≡ length (root_terms nodes) =
      ap (λ (h : ℕ). length (get_or nodes h any_node).terms) last ∙ ap length (sym (root_is nodes any_node some)) in
      absurd (omega (arith, c.0)))
      (λ (few : length nodes ≤ 1). omega arith)
      (cases_lt 1 (length nodes))
