-- Two lists of terms, merged in one pass.
use Rattle.std.specs.Prelude.{◌≡◌, ℕ, ◌+◌, ◌⊎◌, ◌-◌, ◌<◌, ◌≤◌, ◌^◌, Bool, List, [], ◌∷◌, ◌++◌, Option, Some, None, option_to_list, All, refl, take}
use Rattle.std.specs.List.{slice_get}
use Rattle.std.proofs.Common.{sym, ◌∙◌, ap, subst, arith, suc, length, get_or, append_assoc, drop, drop-cons, inl, inr}
use Rattle.std.proofs.lemmas.List.{append-nil, drop_all, drop-drop, get_or-drop, get_or-take, length-drop, length-take-le, take-append-drop}
use Rattle.std.proofs.lemmas.Option.{slice_get_within, get_or_from_slice_get}
use Rattle.std.proofs.lemmas.List.Elements.{All-head, All-tail, All-weaker}
use Rattle.std.proofs.lemmas.List.Sums.{sum_by-append, sum_by_push}
use Rattle.scut_base.specs.Literal.{Literal}
use Rattle.pb_lin.specs.Constraint.{ConstraintValue, IsNormal, size, total, term_value, value}
use Rattle.cutting_planes.specs.Applied.{IsPushedBelow}
use Rattle.cutting_planes.specs.Rules.{IsSum}
use Rattle.cutting_planes.proofs.Terms.{Terms, total-cons, value-cons}
use Rattle.cutting_planes.proofs.Rising.{Above, above_from_normal, normal_from_above, above_next, above_without, above_instead, above_before}

-- what is merged of p and q, what is left of each, and what has cancelled
pub record IsMerge (p q ms ls rs : Terms) (cancelled : ℕ) : Type 0 where
  pub same : (a : List Bool) → value a p + value a q ≡ value a ms + value a ls + value a rs + cancelled
  pub left : Above 0 (ms ++ ls)
  pub right : Above 0 (ms ++ rs)
  pub small : total ms + total ls + total rs + cancelled ≤ total p + total q

pub merge_start : (p q : ConstraintValue) → IsNormal p.terms p.degree → IsNormal q.terms q.degree → IsMerge p.terms q.terms [] p.terms q.terms 0
merge_start p q normal_p normal_q = record {
  same = λ a. omega arith;
  left = above_from_normal p.terms p.degree normal_p;
  right = above_from_normal q.terms q.degree normal_q;
  small = omega arith;
}

moved : (ms : Terms) (s : Literal × ℕ) (ls : Terms) → Above 0 (ms ++ s ∷ ls) → Above 0 ((ms ++ s ∷ []) ++ ls)
moved ms s ls above = subst (λ (ts : Terms). Above 0 ts) (sym (append_assoc ms (s ∷ []) ls)) above

move_same : (v m l r c x k n : ℕ) → v ≡ m + l + r + c → l ≡ x + k → n ≡ m + x → v ≡ n + k + r + c
move_same v m l r c x k n e f g = omega arith

move_small : (v m l r c x k n : ℕ) → m + l + r + c ≤ v → l ≡ x + k → n ≡ m + x → n + k + r + c ≤ v
move_small v m l r c x k n e f g = omega arith

pub merge_left : (p q ms ls rs : Terms) (s t : Literal × ℕ) (cancelled : ℕ) → IsMerge p q ms (s ∷ ls) (t ∷ rs) cancelled → s.0.var < t.0.var → IsMerge p q (ms ++ s ∷ []) ls (t ∷ rs) cancelled
merge_left p q ms ls rs s t cancelled merge before = record {
  same = λ a.
      let whole : value a p + value a q ≡ value a ms + value a (s ∷ ls) + value a (t ∷ rs) + cancelled = merge.same a in
      let first : value a (s ∷ ls) ≡ term_value a s + value a ls = value-cons a s ls in
      let pushed : value a (ms ++ s ∷ []) ≡ value a ms + term_value a s = sum_by_push (term_value a) ms s in
      move_same (value a p + value a q) (value a ms) (value a (s ∷ ls)) (value a (t ∷ rs)) cancelled (term_value a s) (value a ls) (value a (ms ++ s ∷ [])) whole first pushed;
  left = moved ms s ls merge.left;
  right = moved ms s (t ∷ rs) (above_before 0 ms s t ls rs before merge.left merge.right);
  small =
      let whole : total ms + total (s ∷ ls) + total (t ∷ rs) + cancelled ≤ total p + total q = merge.small in
      let first : total (s ∷ ls) ≡ s.1 + total ls = total-cons s ls in
      let pushed : total (ms ++ s ∷ []) ≡ total ms + s.1 = sum_by_push (λ t. t.1) ms s in
      move_small (total p + total q) (total ms) (total (s ∷ ls)) (total (t ∷ rs)) cancelled s.1 (total ls) (total (ms ++ s ∷ [])) whole first pushed;
}

turn_same : (p q m l r c : ℕ) → p + q ≡ m + l + r + c → q + p ≡ m + r + l + c
turn_same p q m l r c e = omega arith

turn_small : (p q m l r c : ℕ) → m + l + r + c ≤ p + q → m + r + l + c ≤ q + p
turn_small p q m l r c e = omega arith

-- the two sides change places
pub merge_turned : (p q ms ls rs : Terms) (cancelled : ℕ) → IsMerge p q ms ls rs cancelled → IsMerge q p ms rs ls cancelled
merge_turned p q ms ls rs cancelled merge = record {
  same = λ a. let whole : value a p + value a q ≡ value a ms + value a ls + value a rs + cancelled = merge.same a in turn_same (value a p) (value a q) (value a ms) (value a ls) (value a rs) cancelled whole;
  left = merge.right;
  right = merge.left;
  small = turn_small (total p) (total q) (total ms) (total ls) (total rs) cancelled merge.small;
}

-- what is left of two terms of one variable, with what cancels
pub record IsJoined (s t : Literal × ℕ) (left : Terms) (cancelled : ℕ) : Type 0 where
  pub same : (a : List Bool) → value a left + cancelled ≡ term_value a s + term_value a t
  pub variable : s.0.var ≡ t.0.var
  pub terms : All (λ u. (u.0.var ≡ s.0.var) × (0 < u.1)) left
  pub small : total left + cancelled ≤ s.1 + t.1

join_same : (v m l r c x k y i u d n : ℕ) → v ≡ m + l + r + c → l ≡ x + k → r ≡ y + i → n ≡ m + u → u + d ≡ x + y → v ≡ n + k + i + (c + d)
join_same v m l r c x k y i u d n e f g h j = omega arith

join_small : (v m l r c x k y i u d n : ℕ) → m + l + r + c ≤ v → l ≡ x + k → r ≡ y + i → n ≡ m + u → u + d ≤ x + y → n + k + i + (c + d) ≤ v
join_small v m l r c x k y i u d n e f g h j = omega arith

-- the terms that are left of two stand in their place
above_left : (ms : Terms) (s : Literal × ℕ) (ls : Terms) (joined : Option (Literal × ℕ)) → All (λ u. (u.0.var ≡ s.0.var) × (0 < u.1)) (option_to_list joined) → Above 0 (ms ++ s ∷ ls) → Above 0 ((ms ++ option_to_list joined) ++ ls)
above_left ms s ls None all above = subst (λ (ts : Terms). Above 0 (ts ++ ls)) (sym (append-nil ms)) (above_without 0 ms s ls above)
above_left ms s ls (Some u) all above =
    let one = All-head (λ (r : Literal × ℕ). (r.0.var ≡ s.0.var) × (0 < r.1)) u [] all in
    moved ms u ls (above_instead 0 ms s u ls one.0 one.1 above)

same_variable : (s t : Literal × ℕ) (left : Terms) → s.0.var ≡ t.0.var → All (λ u. (u.0.var ≡ s.0.var) × (0 < u.1)) left → All (λ u. (u.0.var ≡ t.0.var) × (0 < u.1)) left
same_variable s t left e all = All-weaker (λ u. (u.0.var ≡ s.0.var) × (0 < u.1)) (λ u. (u.0.var ≡ t.0.var) × (0 < u.1)) (λ u h. (h.0 ∙ e, h.1)) left all

merge_joined : (p q ms ls rs : Terms) (s t : Literal × ℕ) (joined : Option (Literal × ℕ)) (before now : ℕ) → IsMerge p q ms (s ∷ ls) (t ∷ rs) before → IsJoined s t (option_to_list joined) now → IsMerge p q (ms ++ option_to_list joined) ls rs (before + now)
merge_joined p q ms ls rs s t joined before now merge is = record {
  same = λ a.
      let pushed : value a (ms ++ option_to_list joined) ≡ value a ms + value a (option_to_list joined) = sum_by-append (term_value a) ms (option_to_list joined) in
      join_same (value a p + value a q) (value a ms) (value a (s ∷ ls)) (value a (t ∷ rs)) before (term_value a s) (value a ls) (term_value a t) (value a rs) (value a (option_to_list joined)) now (value a (ms ++ option_to_list joined)) (merge.same a) (value-cons a s ls) (value-cons a t rs) pushed (is.same a);
  left = above_left ms s ls joined is.terms merge.left;
  right = above_left ms t rs joined (same_variable s t (option_to_list joined) is.variable is.terms) merge.right;
  small =
      let pushed : total (ms ++ option_to_list joined) ≡ total ms + total (option_to_list joined) = sum_by-append (λ t. t.1) ms (option_to_list joined) in
      join_small (total p + total q) (total ms) (total (s ∷ ls)) (total (t ∷ rs)) before s.1 (total ls) t.1 (total rs) (total (option_to_list joined)) now (total (ms ++ option_to_list joined)) merge.small (total-cons s ls) (total-cons t rs) pushed is.small;
}

end_same : (v m l c n : ℕ) → v ≡ m + l + 0 + c → n ≡ m + l → v ≡ n + c
end_same v m l c n e f = omega arith

end_small : (p d q e m l c n z : ℕ) → m + l + 0 + c ≤ p + q → n ≡ m + l → (p + d) + (q + e) ≤ z → n + ((d + e) - c) ≤ z
end_small p d q e m l c n z h j k = omega arith

-- at the end nothing is left of one side
pub merge_end_right : (p q : ConstraintValue) (ms ls : Terms) (cancelled : ℕ) → IsMerge p.terms q.terms ms ls [] cancelled → size p + size q ≤ 2 ^ 100 → IsSum (record { terms = ms ++ ls; degree = (p.degree + q.degree) - cancelled }) p q
merge_end_right p q ms ls cancelled merge fits = record {
  cancelled = cancelled;
  same = λ a.
      let whole : value a p.terms + value a q.terms ≡ value a ms + value a ls + value a [] + cancelled = merge.same a in
      let both : value a (ms ++ ls) ≡ value a ms + value a ls = sum_by-append (term_value a) ms ls in
      end_same (value a p.terms + value a q.terms) (value a ms) (value a ls) cancelled (value a (ms ++ ls)) whole both;
  degree = refl;
  normal = normal_from_above (ms ++ ls) ((p.degree + q.degree) - cancelled) merge.left
      (let both : total (ms ++ ls) ≡ total ms + total ls = sum_by-append (λ t. t.1) ms ls in
      end_small (total p.terms) p.degree (total q.terms) q.degree (total ms) (total ls) cancelled (total (ms ++ ls)) (2 ^ 100) merge.small both fits);
}

-- ---- steps of the loop, which stands at place i of p and at place j of q

-- the terms from a place on begin with the one that stands there
pub drop_from : (ts : Terms) (i : ℕ) (t : Literal × ℕ) → slice_get ts i ≡ Some t → drop i ts ≡ t ∷ drop (i + 1) ts
drop_from ts i t at =
    let more : suc i ≡ i + 1 = omega arith in
    drop-cons ts i t (slice_get_within ts i t at) ∙ ap (λ (u : Literal × ℕ). u ∷ drop (suc i) ts) (get_or_from_slice_get ts i t t at) ∙ ap (λ (k : ℕ). t ∷ drop k ts) more

opened : (p q ms : Terms) (i j : ℕ) (s t : Literal × ℕ) (cancelled : ℕ) → IsMerge p q ms (drop i p) (drop j q) cancelled → slice_get p i ≡ Some s → slice_get q j ≡ Some t → IsMerge p q ms (s ∷ drop (i + 1) p) (t ∷ drop (j + 1) q) cancelled
opened p q ms i j s t cancelled merge at_i at_j =
    subst (λ (xs : Terms). IsMerge p q ms xs (t ∷ drop (j + 1) q) cancelled) (drop_from p i s at_i) (subst (λ (xs : Terms). IsMerge p q ms (drop i p) xs cancelled) (drop_from q j t at_j) merge)

pub step_left : (p q ms ms' : Terms) (i j : ℕ) (s t : Literal × ℕ) (cancelled : ℕ) → IsMerge p q ms (drop i p) (drop j q) cancelled → slice_get p i ≡ Some s → slice_get q j ≡ Some t → s.0.var < t.0.var → ms' ≡ ms ++ s ∷ [] → IsMerge p q ms' (drop (i + 1) p) (drop j q) cancelled
step_left p q ms ms' i j s t cancelled merge at_i at_j before pushed =
    let made : IsMerge p q (ms ++ s ∷ []) (drop (i + 1) p) (t ∷ drop (j + 1) q) cancelled = merge_left p q ms (drop (i + 1) p) (drop (j + 1) q) s t cancelled (opened p q ms i j s t cancelled merge at_i at_j) before in
    subst (λ (xs : Terms). IsMerge p q ms' (drop (i + 1) p) xs cancelled) (sym (drop_from q j t at_j)) (subst (λ (xs : Terms). IsMerge p q xs (drop (i + 1) p) (t ∷ drop (j + 1) q) cancelled) (sym pushed) made)

pub step_right : (p q ms ms' : Terms) (i j : ℕ) (s t : Literal × ℕ) (cancelled : ℕ) → IsMerge p q ms (drop i p) (drop j q) cancelled → slice_get p i ≡ Some s → slice_get q j ≡ Some t → t.0.var < s.0.var → ms' ≡ ms ++ t ∷ [] → IsMerge p q ms' (drop i p) (drop (j + 1) q) cancelled
step_right p q ms ms' i j s t cancelled merge at_i at_j before pushed =
    merge_turned q p ms' (drop (j + 1) q) (drop i p) cancelled (step_left q p ms ms' j i t s cancelled (merge_turned p q ms (drop i p) (drop j q) cancelled merge) at_j at_i before pushed)

pub step_joined : (p q ms ms' : Terms) (i j : ℕ) (s t : Literal × ℕ) (joined : Option (Literal × ℕ)) (before now : ℕ) → IsMerge p q ms (drop i p) (drop j q) before → slice_get p i ≡ Some s → slice_get q j ≡ Some t → IsJoined s t (option_to_list joined) now → ms' ≡ ms ++ option_to_list joined → IsMerge p q ms' (drop (i + 1) p) (drop (j + 1) q) (before + now)
step_joined p q ms ms' i j s t joined before now merge at_i at_j is pushed =
    subst (λ (xs : Terms). IsMerge p q xs (drop (i + 1) p) (drop (j + 1) q) (before + now)) (sym pushed) (merge_joined p q ms (drop (i + 1) p) (drop (j + 1) q) s t joined before now (opened p q ms i j s t before merge at_i at_j) is)

-- the next terms are positive
pub left_positive : (p q ms rs : Terms) (i : ℕ) (s : Literal × ℕ) (cancelled : ℕ) → IsMerge p q ms (drop i p) rs cancelled → slice_get p i ≡ Some s → 0 < s.1
left_positive p q ms rs i s cancelled merge at =
    above_next 0 ms s (drop (i + 1) p) (subst (λ (xs : Terms). Above 0 (ms ++ xs)) (drop_from p i s at) merge.left)

pub right_positive : (p q ms ls : Terms) (j : ℕ) (t : Literal × ℕ) (cancelled : ℕ) → IsMerge p q ms ls (drop j q) cancelled → slice_get q j ≡ Some t → 0 < t.1
right_positive p q ms ls j t cancelled merge at = left_positive q p ms ls j t cancelled (merge_turned p q ms ls (drop j q) cancelled merge) at

next_fit : (m l r c x k y i v z : ℕ) → m + l + r + c ≤ v → l ≡ x + k → r ≡ y + i → v ≤ z → c + (x + y) ≤ z
next_fit m l r c x k y i v z whole e f fits = omega arith

-- what is cancelled stays within the sizes, also if both next terms were cancelled
pub next_small : (p q : ConstraintValue) (ms : Terms) (i j : ℕ) (s t : Literal × ℕ) (cancelled : ℕ) → IsMerge p.terms q.terms ms (drop i p.terms) (drop j q.terms) cancelled → slice_get p.terms i ≡ Some s → slice_get q.terms j ≡ Some t → size p + size q ≤ 2 ^ 100 → cancelled + (s.1 + t.1) ≤ 2 ^ 100
next_small p q ms i j s t cancelled merge at_i at_j fits =
    let left = drop (i + 1) p.terms in
    let right = drop (j + 1) q.terms in
    next_fit (total ms) (total (s ∷ left)) (total (t ∷ right)) cancelled s.1 (total left) t.1 (total right) (total p.terms + total q.terms) (2 ^ 100) (opened p.terms q.terms ms i j s t cancelled merge at_i at_j).small (total-cons s left) (total-cons t right) (omega arith)

sum_turned : (r p q : ConstraintValue) → IsSum r q p → IsSum r p q
sum_turned r p q sum = record {
  cancelled = sum.cancelled;
  same = λ a. let whole : value a q.terms + value a p.terms ≡ value a r.terms + sum.cancelled = sum.same a in omega arith;
  degree = let whole : r.degree ≡ (q.degree + p.degree) - sum.cancelled = sum.degree in omega arith;
  normal = sum.normal;
}

pub step_end : (p q : ConstraintValue) (ms ls rs ms' : Terms) (cancelled degree : ℕ) → IsMerge p.terms q.terms ms ls rs cancelled → (ls ≡ []) ⊎ (rs ≡ []) → ms' ≡ (ms ++ ls) ++ rs → size p + size q ≤ 2 ^ 100 → degree ≡ (p.degree + q.degree) - cancelled → IsSum (record { terms = ms'; degree = degree }) p q
step_end p q ms ls rs ms' cancelled degree merge (inr none) whole fits is =
    let end : IsMerge p.terms q.terms ms ls [] cancelled = subst (λ (xs : Terms). IsMerge p.terms q.terms ms ls xs cancelled) none merge in
    let all : ms' ≡ ms ++ ls = whole ∙ ap (λ (xs : Terms). (ms ++ ls) ++ xs) none ∙ append-nil (ms ++ ls) in
    subst (λ (xs : Terms). IsSum (record { terms = xs; degree = degree }) p q) (sym all) (subst (λ (n : ℕ). IsSum (record { terms = ms ++ ls; degree = n }) p q) (sym is) (merge_end_right p q ms ls cancelled end fits))
step_end p q ms ls rs ms' cancelled degree merge (inl none) whole fits is =
    let end : IsMerge q.terms p.terms ms rs [] cancelled = subst (λ (xs : Terms). IsMerge q.terms p.terms ms rs xs cancelled) none (merge_turned p.terms q.terms ms ls rs cancelled merge) in
    let all : ms' ≡ ms ++ rs = whole ∙ ap (λ (xs : Terms). (ms ++ xs) ++ rs) none ∙ ap (λ (xs : Terms). xs ++ rs) (append-nil ms) in
    let is' : degree ≡ (q.degree + p.degree) - cancelled = omega arith in
    sum_turned (record { terms = ms'; degree = degree }) p q
    (subst (λ (xs : Terms). IsSum (record { terms = xs; degree = degree }) q p) (sym all) (subst (λ (n : ℕ). IsSum (record { terms = ms ++ rs; degree = n }) q p) (sym is') (merge_end_right q p ms rs cancelled end (omega arith))))

nothing_left : (ls rs : Terms) (i j : ℕ) → (length ls ≤ i) ⊎ (length rs ≤ j) → (drop i ls ≡ []) ⊎ (drop j rs ≡ [])
nothing_left ls rs i j (inl ended) = inl (drop_all i ls ended)
nothing_left ls rs i j (inr ended) = inr (drop_all j rs ended)

-- one side has ended, and what was left of both is put at the end
pub step_last : (p q : ConstraintValue) (ms half ms' : Terms) (i j cancelled degree : ℕ) → IsMerge p.terms q.terms ms (drop i p.terms) (drop j q.terms) cancelled → (length p.terms ≤ i) ⊎ (length q.terms ≤ j) → half ≡ ms ++ drop i p.terms → ms' ≡ half ++ drop j q.terms → size p + size q ≤ 2 ^ 100 → degree ≡ (p.degree + q.degree) - cancelled → IsSum (record { terms = ms'; degree = degree }) p q
step_last p q ms half ms' i j cancelled degree merge ended first second fits is =
    step_end p q ms (drop i p.terms) (drop j q.terms) ms' cancelled degree merge (nothing_left p.terms q.terms i j ended) (second ∙ ap (λ (ts : Terms). ts ++ drop j q.terms) first) fits is

-- ---- each step leaves fewer terms

pub fewer_left : (n m i j end : ℕ) → i < end → end ≤ n → (n - end) + (m - j) < (n - i) + (m - j)
fewer_left n m i j end past bound = omega arith

pub fewer_right : (n m i j end : ℕ) → j < end → end ≤ m → (n - i) + (m - end) < (n - i) + (m - j)
fewer_right n m i j end past bound = omega arith

pub fewer_both : (n m i j : ℕ) → i < n → j < m → (n - (i + 1)) + (m - (j + 1)) < (n - i) + (m - j)
fewer_both n m i j left right = omega arith

-- ---- terms of one side that are copied together

merge_block : (p q ms xs ls rs : Terms) (t : Literal × ℕ) (cancelled : ℕ) → IsMerge p q ms (xs ++ ls) (t ∷ rs) cancelled → All (λ x. x.0.var < t.0.var) xs → IsMerge p q (ms ++ xs) ls (t ∷ rs) cancelled
merge_block p q ms [] ls rs t cancelled merge below = subst (λ (ts : Terms). IsMerge p q ts ls (t ∷ rs) cancelled) (sym (append-nil ms)) merge
merge_block p q ms (x ∷ xs) ls rs t cancelled merge below =
    subst (λ (ts : Terms). IsMerge p q ts ls (t ∷ rs) cancelled) (append_assoc ms (x ∷ []) xs)
    (merge_block p q (ms ++ x ∷ []) xs ls rs t cancelled (merge_left p q ms (xs ++ ls) rs x t cancelled merge (All-head (λ y. y.0.var < t.0.var) x xs below)) (All-tail (λ y. y.0.var < t.0.var) x xs below))

-- the terms from a place on, up to another
between_below : (ts : Terms) (i n v : ℕ) → i + n ≤ length ts → ((k : ℕ) (d : Literal × ℕ) → i ≤ k → k < i + n → (get_or ts k d).0.var < v) → All (λ x. x.0.var < v) (take n (drop i ts))
between_below ts i n v bound below k d short =
    let few : length (take n (drop i ts)) ≡ n = length-take-le n (drop i ts) (let left : length (drop i ts) ≡ length ts - i = length-drop i ts in omega arith) in
    let same : get_or (take n (drop i ts)) k d ≡ get_or ts (i + k) d = get_or-take n (drop i ts) k d (omega arith) ∙ get_or-drop i ts k d in
    subst (λ (x : Literal × ℕ). x.0.var < v) (sym same) (below (i + k) d (omega arith) (omega arith))

pub step_block : (p q ms ms' : Terms) (i j end : ℕ) (t : Literal × ℕ) (cancelled : ℕ) → IsMerge p q ms (drop i p) (drop j q) cancelled → slice_get q j ≡ Some t → IsPushedBelow ms ms' p i t.0.var end → IsMerge p q ms' (drop end p) (drop j q) cancelled
step_block p q ms ms' i j end t cancelled merge at_j block =
    let n : ℕ = end - i in
    let past : i < end = block.past in
    let bound : end ≤ length p = block.bound in
    let below : All (λ x. x.0.var < t.0.var) (take n (drop i p)) = between_below p i n t.0.var (omega arith) (λ k d from within. block.below k d from (omega arith)) in
    let split : drop i p ≡ take n (drop i p) ++ drop n (drop i p) = sym (take-append-drop n (drop i p)) in
    let after : drop n (drop i p) ≡ drop end p = drop-drop n i p ∙ ap (λ (k : ℕ). drop k p) (omega arith) in
    let whole : drop i p ≡ take n (drop i p) ++ drop end p = split ∙ ap (λ (ts : Terms). take n (drop i p) ++ ts) after in
    let opened_both : IsMerge p q ms (take n (drop i p) ++ drop end p) (t ∷ drop (j + 1) q) cancelled =
    subst (λ (xs : Terms). IsMerge p q ms xs (t ∷ drop (j + 1) q) cancelled) whole (subst (λ (xs : Terms). IsMerge p q ms (drop i p) xs cancelled) (drop_from q j t at_j) merge) in
    let made : IsMerge p q (ms ++ take n (drop i p)) (drop end p) (t ∷ drop (j + 1) q) cancelled = merge_block p q ms (take n (drop i p)) (drop end p) (drop (j + 1) q) t cancelled opened_both below in
    subst (λ (xs : Terms). IsMerge p q ms' (drop end p) xs cancelled) (sym (drop_from q j t at_j)) (subst (λ (xs : Terms). IsMerge p q xs (drop end p) (t ∷ drop (j + 1) q) cancelled) (sym block.pushed) made)

pub step_block_right : (p q ms ms' : Terms) (i j end : ℕ) (s : Literal × ℕ) (cancelled : ℕ) → IsMerge p q ms (drop i p) (drop j q) cancelled → slice_get p i ≡ Some s → IsPushedBelow ms ms' q j s.0.var end → IsMerge p q ms' (drop i p) (drop end q) cancelled
step_block_right p q ms ms' i j end s cancelled merge at_i block =
    merge_turned q p ms' (drop end q) (drop i p) cancelled (step_block q p ms ms' j i end s cancelled (merge_turned p q ms (drop i p) (drop j q) cancelled merge) at_i block)
