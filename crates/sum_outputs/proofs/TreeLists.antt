-- Trees with nodes put behind them.
use Rattle.std.proofs.Common.{◌≡◌, inl, inr, ℕ, ◌-◌, ◌<◌, ◌≤◌, List, [], ◌∷◌, ◌++◌, get_or, length, take, drop, refl, ap, sym, subst, ◌∙◌, ⊎_elim, arith, append_assoc}
use Rattle.std.specs.List.{All, Contains}
use Rattle.std.specs.Int.{div_ceil}
use Rattle.std.proofs.lemmas.Bool.{cases_lt}
use Rattle.std.proofs.lemmas.List.{get_or_append_left, length-append, length-drop, take-append-drop, take_all}
use Rattle.std.proofs.lemmas.List.Elements.{All-nil, All-cons, All-append, All-contains_itself}
use Rattle.pb_lin.specs.Constraint.{total}
use Rattle.cutting_planes.proofs.Terms.{Terms}
use Rattle.sum_outputs.specs.Totals.{AreWeights, first_half, first_child, second_child}
use Rattle.sum_outputs.specs.Tree.{IsInner, IsNode, IsTree, IsGrown}
use Rattle.sum_outputs.specs.declared.node.Node.{Node}
use Rattle.sum_outputs.proofs.Attaining.{weights_right}
use Rattle.sum_outputs.proofs.TreeParts.{last_node, parts_among, all_parents, all_apart}

-- a node stays one where others are put behind all
node_longer : (nodes more : List Node) (i : ℕ) (n : Node) → i ≤ length nodes → IsNode nodes i n → IsNode (nodes ++ more) i n
node_longer nodes more i n short is = record {
  weights = is.weights;
  all = is.all;
  shape = ⊎_elim
      (λ (leaf : length n.terms ≡ 1). inl leaf)
      (λ (inner : IsInner nodes i n). inr (record {
        long = inner.long;
        first_before = inner.first_before;
        second_before = inner.second_before;
        apart = inner.apart;
        first_terms = λ d. ap (λ (m : Node). m.terms) (get_or_append_left nodes more d n.first (let b = inner.first_before in omega arith)) ∙ inner.first_terms d;
        second_terms = λ d. ap (λ (m : Node). m.terms) (get_or_append_left nodes more d n.second (let b = inner.second_before in omega arith)) ∙ inner.second_terms d;
      }))
      is.shape;
}

tree_push : (nodes : List Node) (n : Node) → IsTree nodes → IsNode nodes (length nodes) n → IsTree (nodes ++ n ∷ [])
tree_push nodes n tree is i d short =
    let size = length-append nodes (n ∷ []) in
    ⊎_elim
    (λ (old : i < length nodes). subst (λ (m : Node). IsNode (nodes ++ n ∷ []) i m) (sym (get_or_append_left nodes (n ∷ []) d i old)) (node_longer nodes (n ∷ []) i (get_or nodes i d) (omega arith) (tree i d old)))
    (λ (new : length nodes ≤ i).
    let same : length nodes ≡ i = omega arith in
    subst (λ (j : ℕ). IsNode (nodes ++ n ∷ []) j (get_or (nodes ++ n ∷ []) j d)) same (subst (λ (m : Node). IsNode (nodes ++ n ∷ []) (length nodes) m) (sym (last_node nodes n d)) (node_longer nodes (n ∷ []) (length nodes) n (omega arith) is)))
    (cases_lt i (length nodes))

-- one node more
pub grown_by_node : (nodes now : List Node) (n : Node) (at : ℕ) → IsTree nodes → IsNode nodes (length nodes) n → at ≡ length nodes → now ≡ nodes ++ n ∷ [] → IsGrown nodes now n.terms at
grown_by_node nodes now n at tree is place same =
    let size = ap length same ∙ length-append nodes (n ∷ []) in
    record {
      more = n ∷ [];
      is = same;
      tree = subst IsTree (sym same) (tree_push nodes n tree is);
      last = omega arith;
      from = omega arith;
      among = All-cons (λ m. All (Contains n.terms) m.terms) n [] (All-contains_itself n.terms) (All-nil (λ m. All (Contains n.terms) m.terms));
      parents = λ i from short. absurd (omega arith);
      leaves_apart = λ i j from less short. absurd (omega arith);
      has = λ d. ap (λ (ns : List Node). (get_or ns at d).terms) same ∙ ap (λ (k : ℕ). (get_or (nodes ++ n ∷ []) k d).terms) place ∙ ap (λ (m : Node). m.terms) (last_node nodes n d);
    }

leaf_node : (nodes : List Node) (terms : Terms) → AreWeights terms → length terms ≡ 1 → IsNode nodes (length nodes) (record { terms = terms; total = total terms; first = 0; second = 0 })
leaf_node nodes terms weights one = record { weights = weights; all = refl; shape = inl one }

-- a leaf
pub grown_by_leaf : (nodes now : List Node) (terms : Terms) (at : ℕ) → IsTree nodes → AreWeights terms → length terms ≡ 1 → at ≡ length nodes → now ≡ nodes ++ record { terms = terms; total = total terms; first = 0; second = 0 } ∷ [] → IsGrown nodes now terms at
grown_by_leaf nodes now terms at tree weights one place same = grown_by_node nodes now (record { terms = terms; total = total terms; first = 0; second = 0 }) at tree (leaf_node nodes terms weights one) place same

-- an inner node, after its children
pub grown_by_inner : (nodes one two now : List Node) (terms : Terms) (first second at : ℕ) → AreWeights terms → 1 < length terms → IsGrown nodes one (first_child terms) first → IsGrown one two (second_child terms) second → at ≡ length two → now ≡ two ++ record { terms = terms; total = total terms; first = first; second = second } ∷ [] → IsGrown nodes now terms at
grown_by_inner nodes one two now terms first second at weights long left right place same =
    let n : Node = record { terms = terms; total = total terms; first = first; second = second } in
    let size = ap length right.is ∙ length-append one right.more in
    let l = left.last in
    let r = right.last in
    let f = right.from in
    let is : IsNode two (length two) n = record {
      weights = weights;
      all = refl;
      shape = inr (record {
        long = long;
        first_before = omega arith;
        second_before = omega arith;
        apart = omega arith;
        first_terms = λ d. ap (λ (ns : List Node). (get_or ns first d).terms) right.is ∙ ap (λ (m : Node). m.terms) (get_or_append_left one right.more d first (omega arith)) ∙ left.has d;
        second_terms = right.has;
      });
    } in
    let grown = grown_by_node two now n at right.tree is place same in
    record {
      more = (left.more ++ right.more) ++ grown.more;
      is = grown.is ∙ ap (λ (ns : List Node). ns ++ grown.more) (right.is ∙ ap (λ (ns : List Node). ns ++ right.more) left.is ∙ append_assoc nodes left.more right.more) ∙ append_assoc nodes (left.more ++ right.more) grown.more;
      tree = grown.tree;
      last = grown.last;
      from = let a = left.from in let b = grown.from in omega arith;
      has = grown.has;
      among = All-append (λ m. All (Contains terms) m.terms) (left.more ++ right.more) grown.more (parts_among nodes one two now n at weights long left right place same) grown.among;
      parents = all_parents nodes one two now n at weights long left right place same;
      leaves_apart = all_apart nodes one two now n at weights long left right place same;
    }

-- the weights of the terms after some
pub second_weights : (terms : Terms) (h : ℕ) → AreWeights terms → AreWeights (drop h terms)
second_weights terms h weights = weights_right (take h terms) (drop h terms) (subst (λ (ts : Terms). AreWeights ts) (sym (take-append-drop h terms)) weights)

-- the rest of the terms, as a slice gives them
pub rest_is : (terms : Terms) (h : ℕ) → take (length terms - h) (drop h terms) ≡ drop h terms
rest_is terms h = take_all (length terms - h) (drop h terms) (let size = length-drop h terms in omega arith)

-- half of the terms, rounded up
pub half_is : (n half : ℕ) → half ≡ div_ceil n 2 → half ≡ first_half n
half_is n half is = omega arith

pub rest_size : (terms : Terms) (h : ℕ) → length (take (length terms - h) (drop h terms)) ≡ length terms - h
rest_size terms h = ap length (rest_is terms h) ∙ length-drop h terms
