-- A root over two trees: the nodes' terms are among its own, each of the others is a child, and leaves are apart.
use Rattle.std.proofs.Common.{◌≡◌, ◌≢◌, ◌⊎◌, inl, inr, ℕ, ◌+◌, ◌-◌, ◌<◌, ◌≤◌, List, [], ◌∷◌, ◌++◌, get_or, length, refl, ap, sym, subst, ◌∙◌, ⊎_elim, arith, append_assoc}
use Rattle.std.specs.List.{All, Contains}
use Rattle.std.proofs.lemmas.Bool.{cases_lt, cases_order}
use Rattle.std.proofs.lemmas.List.{get_or_append_left, get_or-append_right, get_or_default, length-append, take-append-drop}
use Rattle.std.proofs.lemmas.List.Elements.{All-append, Contains-append_left, Contains-append_right}
use Rattle.scut_base.specs.Literal.{Literal}
use Rattle.cutting_planes.proofs.Terms.{Terms}
use Rattle.sum_outputs.specs.Totals.{AreWeights, first_half, first_child, second_child}
use Rattle.sum_outputs.specs.Tree.{IsChildOf, AreLeavesApart, IsGrown}
use Rattle.sum_outputs.specs.declared.node.Node.{Node}
use Rattle.sum_outputs.proofs.Attaining.{apart_across}

pub last_node : (nodes : List Node) (n d : Node) → get_or (nodes ++ n ∷ []) (length nodes) d ≡ n
last_node nodes n d = get_or-append_right nodes (n ∷ []) (length nodes) (length nodes) d refl (omega arith) ∙ ap (λ (k : ℕ). get_or (n ∷ []) k d) (let e : length nodes - length nodes ≡ 0 = omega arith in e)

-- ---- nodes that others are put behind

module _ (nodes more now : List Node) (same : now ≡ nodes ++ more) where
  node_stays : (i : ℕ) (d : Node) → i < length nodes → get_or now i d ≡ get_or nodes i d
  node_stays i d short = ap (λ (ns : List Node). get_or ns i d) same ∙ get_or_append_left nodes more d i short

  child_stays : (i j : ℕ) → j < length nodes → IsChildOf nodes i j → IsChildOf now i j
  child_stays i j short is d = subst (λ (m : Node). (1 < length m.terms) × ((i ≡ m.first) ⊎ (i ≡ m.second))) (sym (node_stays j d short)) (is d)

  leaves_stay : (i j : ℕ) → i < j → j < length nodes → AreLeavesApart nodes i j → AreLeavesApart now i j
  leaves_stay i j less short are d =
      subst (λ (m : Node). length m.terms ≡ 1 → length (get_or now j d).terms ≡ 1 → All (λ s. All (λ t. s.0.var ≢ t.0.var) (get_or now j d).terms) m.terms) (sym (node_stays i d (omega arith)))
      (subst (λ (m : Node). length (get_or nodes i d).terms ≡ 1 → length m.terms ≡ 1 → All (λ s. All (λ t. s.0.var ≢ t.0.var) m.terms) (get_or nodes i d).terms) (sym (node_stays j d short)) (are d))

-- ---- the terms of the children

first_among : (terms : Terms) (t : Literal × ℕ) → Contains (first_child terms) t → Contains terms t
first_among terms t there = subst (λ (ts : Terms). Contains ts t) (take-append-drop (first_half (length terms)) terms) (Contains-append_left (first_child terms) (second_child terms) t there)

second_among : (terms : Terms) (t : Literal × ℕ) → Contains (second_child terms) t → Contains terms t
second_among terms t there = subst (λ (ts : Terms). Contains ts t) (take-append-drop (first_half (length terms)) terms) (Contains-append_right (first_child terms) (second_child terms) t there)

-- a term under the one child and a term under the other have different variables
children_apart : (terms : Terms) → AreWeights terms → (s t : Literal × ℕ) → Contains (first_child terms) s → Contains (second_child terms) t → s.0.var ≢ t.0.var
children_apart terms weights s t (p, short, is) (q, short', is') e =
    apart_across (first_child terms) (second_child terms) (subst (λ (ts : Terms). AreWeights ts) (sym (take-append-drop (first_half (length terms)) terms)) weights) p q s short short'
    (ap (λ (u : Literal × ℕ). u.0.var) is ∙ e ∙ sym (ap (λ (u : Literal × ℕ). u.0.var) (get_or_default (second_child terms) q s t short' ∙ is')))

-- ---- the root

module _ (nodes one two now : List Node) (n : Node) (at : ℕ) (weights : AreWeights n.terms) (long : 1 < length n.terms) (left : IsGrown nodes one (first_child n.terms) n.first) (right : IsGrown one two (second_child n.terms) n.second) (place : at ≡ length two) (same : now ≡ two ++ n ∷ []) where
  size : length now ≡ length two + 1
  size = let whole = ap length same ∙ length-append two (n ∷ []) in omega arith

  root_is : (d : Node) → get_or now at d ≡ n
  root_is d = ap (λ (ns : List Node). get_or ns at d) same ∙ ap (λ (k : ℕ). get_or (two ++ n ∷ []) k d) place ∙ last_node two n d

  one_in_now : now ≡ one ++ (right.more ++ n ∷ [])
  one_in_now = same ∙ ap (λ (ns : List Node). ns ++ n ∷ []) right.is ∙ append_assoc one right.more (n ∷ [])

  pub parts_among : All (λ m. All (Contains n.terms) m.terms) (left.more ++ right.more)
  parts_among = All-append (λ m. All (Contains n.terms) m.terms) left.more right.more
      (λ k d short i t within. first_among n.terms (get_or (get_or left.more k d).terms i t) (left.among k d short i t within))
      (λ k d short i t within. second_among n.terms (get_or (get_or right.more k d).terms i t) (right.among k d short i t within))

  child_of_root : (i : ℕ) → (i ≡ n.first) ⊎ (i ≡ n.second) → IsChildOf now i at
  child_of_root i is d = subst (λ (m : Node). (1 < length m.terms) × ((i ≡ m.first) ⊎ (i ≡ m.second))) (sym (root_is d)) (long, is)

  first_parents : (i : ℕ) → length nodes ≤ i → i < length one → (j : ℕ) × (j < length now) × IsChildOf now i j
  first_parents i from short =
      let whole = size in
      let last = left.last in
      let later = right.from in
      ⊎_elim
      (λ (root : i ≡ n.first). (at, omega arith, child_of_root i (inl root)))
      (λ (other : (i < n.first) ⊎ (n.first < i)). ⊎_elim
      (λ (less : i < n.first). let up = left.parents i from less in let there = up.1 in (up.0, omega arith, child_stays one (right.more ++ n ∷ []) now one_in_now i up.0 there up.2))
      (λ (more : n.first < i). absurd (omega arith)) other)
      (cases_order i n.first)

  second_parents : (i : ℕ) → length one ≤ i → i < length two → (j : ℕ) × (j < length now) × IsChildOf now i j
  second_parents i from short =
      let whole = size in
      let last = right.last in
      ⊎_elim
      (λ (root : i ≡ n.second). (at, omega arith, child_of_root i (inr root)))
      (λ (other : (i < n.second) ⊎ (n.second < i)). ⊎_elim
      (λ (less : i < n.second). let up = right.parents i from less in let there = up.1 in (up.0, omega arith, child_stays two (n ∷ []) now same i up.0 there up.2))
      (λ (more : n.second < i). absurd (omega arith)) other)
      (cases_order i n.second)

  pub all_parents : (i : ℕ) → length nodes ≤ i → i < at → (j : ℕ) × (j < length now) × IsChildOf now i j
  all_parents i from short = ⊎_elim
      (λ (low : i < length one). first_parents i from low)
      (λ (high : length one ≤ i). second_parents i high (omega arith))
      (cases_lt i (length one))

  -- a node under the one child and a node under the other
  across_apart : (i j : ℕ) → length nodes ≤ i → i < length one → length one ≤ j → j < length two → AreLeavesApart now i j
  across_apart i j from low high short d leaf leaf' =
      let lefts = ap length left.is ∙ length-append nodes left.more in
      let rights = ap length right.is ∙ length-append one right.more in
      let here : get_or now i d ≡ get_or left.more (i - length nodes) d = node_stays one (right.more ++ n ∷ []) now one_in_now i d low
      ∙ ap (λ (ns : List Node). get_or ns i d) left.is ∙ get_or-append_right nodes left.more (length nodes) i d refl from in
      let there : get_or now j d ≡ get_or right.more (j - length one) d = node_stays two (n ∷ []) now same j d short
      ∙ ap (λ (ns : List Node). get_or ns j d) right.is ∙ get_or-append_right one right.more (length one) j d refl high in
      let of_first = subst (λ (m : Node). All (Contains (first_child n.terms)) m.terms) (sym here) (left.among (i - length nodes) d (omega arith)) in
      let of_second = subst (λ (m : Node). All (Contains (second_child n.terms)) m.terms) (sym there) (right.among (j - length one) d (omega arith)) in
      λ h s within k t within'. children_apart n.terms weights (get_or (get_or now i d).terms h s) (get_or (get_or now j d).terms k t) (of_first h s within) (of_second k t within')

  below_apart : (i j : ℕ) → length nodes ≤ i → i < j → j < length two → AreLeavesApart now i j
  below_apart i j from less short = ⊎_elim
      (λ (low : j < length one). leaves_stay one (right.more ++ n ∷ []) now one_in_now i j less low (left.leaves_apart i j from less low))
      (λ (high : length one ≤ j). ⊎_elim
      (λ (low : i < length one). across_apart i j from low high short)
      (λ (both : length one ≤ i). leaves_stay two (n ∷ []) now same i j less short (right.leaves_apart i j both less short))
      (cases_lt i (length one)))
      (cases_lt j (length one))

  -- the root is no leaf
  pub all_apart : (i j : ℕ) → length nodes ≤ i → i < j → j < length now → AreLeavesApart now i j
  all_apart i j from less short = ⊎_elim
      (λ (low : j < length two). below_apart i j from less low)
      (λ (high : length two ≤ j). λ d leaf leaf'.
      let whole = size in
      let at_root : j ≡ at = omega arith in
      let root : length (get_or now j d).terms ≡ length n.terms = ap (λ (k : ℕ). length (get_or now k d).terms) at_root ∙ ap (λ (m : Node). length m.terms) (root_is d) in
      absurd (omega arith))
      (cases_lt j (length two))
