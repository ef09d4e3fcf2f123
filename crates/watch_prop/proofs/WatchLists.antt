-- Lists of literals and of lists, and what a trail keeps when it grows or is cut.
use Rattle.std.proofs.Common.{◌≡◌, ◌≢◌, ℕ, ◌+◌, ◌<◌, ◌≤◌, ◌⊎◌, inl, inr, List, ◌++◌, length, get_or, set, take, drop, refl, sym, ◌∙◌, ap, subst, arith, Bool, true, false, cond, ◌*◌, get_or-set_same, get_or-set_other, take-append-drop}
use Rattle.std.specs.List.{Contains, swap}
use Rattle.std.proofs.lemmas.List.{set_past, get_or_default}
use Rattle.std.proofs.lemmas.List.Edits.{swapped_from_swap, length-swap}
use Rattle.std.proofs.lemmas.List.Elements.{Contains-append_left, Contains-get_or}
use Rattle.std.proofs.lemmas.Bool.{cases_eq, cases_lt}
use Rattle.scut_base.specs.Literal.{Literal}
use Rattle.scut_base.specs.LiteralCode.{code_of}
use Rattle.pb_lin.specs.Constraint.{opposite}
use Rattle.watch_prop.specs.Slot.{Slot}
use Rattle.watch_prop.specs.Watching.{no_literal, no_slot, HasTrue, IsDistinct, IsPut, IsSlot, IsWatch}

-- what holds of each element and of a new one holds after a write
pub at_set : {X : Type 0} (d : X) (P : ℕ → X → Type 0) (xs : List X) (c : ℕ) (x : X) → ((k : ℕ) → P k (get_or xs k d)) → (c < length xs → P c x) → (k : ℕ) → P k (get_or (set xs c x) k d)
at_set d P xs c x each here k =
    elim (cases_eq k c) [
      | inl e ↦ elim (cases_lt c (length xs)) [
        | inl h ↦
            let value : get_or (set xs c x) k d ≡ x = ap (λ i. get_or (set xs c x) i d) e ∙ get_or-set_same xs c x d h in
            subst (λ y. P k y) (sym value) (subst (λ i. P i x) (sym e) (here h))
        | inr h ↦ subst (λ ys. P k (get_or ys k d)) (sym (set_past xs c x h)) (each k)
      ]
      | inr n ↦ subst (λ y. P k y) (sym (get_or-set_other xs c k x d n)) (each k)
    ]

-- the same for what isn't written
pub at_others : {X : Type 0} (d : X) (P : ℕ → X → Type 0) (xs ys : List X) (c : ℕ) → ((k : ℕ) → k ≢ c → get_or ys k d ≡ get_or xs k d) → ((k : ℕ) → P k (get_or xs k d)) → P c (get_or ys c d) → (k : ℕ) → P k (get_or ys k d)
at_others d P xs ys c same each here k =
    elim (cases_eq k c) [
      | inl e ↦ subst (λ i. P i (get_or ys i d)) (sym e) here
      | inr n ↦ subst (λ y. P k y) (sym (same k n)) (each k)
    ]

-- what holds of each place and of a new clause holds after it is put
pub at_put : (P : ℕ → Slot → Type 0) (own new : List Slot) (j : ℕ) (s : Slot) → IsPut own new j s → ((k : ℕ) → P k (get_or own k no_slot)) → P j s → (k : ℕ) → P k (get_or new k no_slot)
at_put P own new j s put each here k = at_others no_slot P own new j put.others each (subst (P j) (sym put.here) here) k

-- where a clause begins one does after another is put
pub begins_after : (own new : List Slot) (j : ℕ) (s : Slot) → IsPut own new j s → s.begins ≡ true → (k : ℕ) → IsSlot own k → IsSlot new k
begins_after own new j s put begins k = at_put (λ i x. IsSlot own i → x.begins ≡ true) own new j s put (λ i h. h) (λ _. begins) k

pub opposite_twice : (l : Literal) → opposite (opposite l) ≡ l
opposite_twice l = twice l.var l.neg
  where
    twice : (v : ℕ) (n : Bool) → opposite (opposite (record { var = v; neg = n })) ≡ record { var = v; neg = n }
    twice v true = refl
    twice v false = refl

pub opposite_same : (l m : Literal) → opposite l ≡ opposite m → l ≡ m
opposite_same l m e = sym (opposite_twice l) ∙ ap opposite e ∙ opposite_twice m

-- literals with one code are the same
pub code_same : (l m : Literal) → code_of l ≡ code_of m → l ≡ m
code_same l m e = both l.var m.var l.neg m.neg e
  where
    both : (v w : ℕ) (b c : Bool) → 2 * v + cond b 1 0 ≡ 2 * w + cond c 1 0 → ◌≡◌ {A = Literal} (record { var = v; neg = b }) (record { var = w; neg = c })
    both v w true true e = (let f : v ≡ w = omega arith in ap (λ (x : ℕ). record { var = x; neg = true }) f)
    both v w false false e = (let f : v ≡ w = omega arith in ap (λ (x : ℕ). record { var = x; neg = false }) f)
    both v w true false e = absurd (omega arith)
    both v w false true e = absurd (omega arith)

pub contains_at : (xs : List Literal) (k : ℕ) (l : Literal) → k < length xs → get_or xs k no_literal ≡ l → Contains xs l
contains_at xs k l below is = subst (Contains xs) is (Contains-get_or xs k no_literal below)

-- where a literal of a list stands
pub place_in : (xs : List Literal) (l : Literal) → Contains xs l → (k : ℕ) × (k < length xs) × (get_or xs k no_literal ≡ l)
place_in xs l (k, below, is) = (k, below, get_or_default xs k no_literal l below ∙ is)

pub contains_take : (n : ℕ) (xs : List Literal) (l : Literal) → Contains (take n xs) l → Contains xs l
contains_take n xs l h = subst (λ ys. Contains ys l) (take-append-drop n xs) (Contains-append_left (take n xs) (drop n xs) l h)

pub true_push : (trail clause more : List Literal) → HasTrue trail clause → HasTrue (trail ++ more) clause
true_push trail clause more (l, in_clause, in_trail) = (l, in_clause, Contains-append_left trail more l in_trail)

-- What one exchange of a clause's literals leaves.

pub watch_swapped : (c : List Literal) (l : Literal) → 2 ≤ length c → IsWatch (swap c 0 1) l → IsWatch c l
watch_swapped c l long (n, which) =
    let s = swapped_from_swap c (swap c 0 1) 0 1 no_literal (omega arith) (omega arith) refl in
    (long, elim which [ inl e ↦ inr (sym s.0 ∙ e) | inr e ↦ inl (sym s.1 ∙ e) ])

pub watch_moved : (c : List Literal) (k : ℕ) (l : Literal) → 2 ≤ k → k < length c → IsWatch (swap c 1 k) l → (get_or c 0 no_literal ≡ l) ⊎ (get_or c k no_literal ≡ l)
watch_moved c k l from to (n, which) =
    let s = swapped_from_swap c (swap c 1 k) 1 k no_literal (omega arith) to refl in
    elim which [ inl e ↦ inl (sym (s.2 0 (λ f. absurd (omega arith)) (λ f. absurd (omega arith))) ∙ e) | inr e ↦ inr (sym s.0 ∙ e) ]

pub distinct_swapped : (c : List Literal) (a b : ℕ) → a < length c → b < length c → IsDistinct c → IsDistinct (swap c a b)
distinct_swapped c a b at_a at_b apart i k below_i below_k ne =
    let s = swapped_from_swap c (swap c a b) a b no_literal at_a at_b refl in
    let len : length (swap c a b) ≡ length c = length-swap c a b in
    let came : (m : ℕ) → m < length c → (from : ℕ) × (from < length c) × (get_or (swap c a b) m no_literal ≡ get_or c from no_literal) × (((m ≡ a) × (from ≡ b)) ⊎ (((m ≡ b) × (from ≡ a)) ⊎ ((m ≢ a) × (m ≢ b) × (from ≡ m)))) =
    λ m below. elim (cases_eq m a) [
      | inl e ↦ (b, at_b, ap (λ j. get_or (swap c a b) j no_literal) e ∙ s.0, inl (e, refl))
      | inr na ↦ elim (cases_eq m b) [
        | inl e ↦ (a, at_a, ap (λ j. get_or (swap c a b) j no_literal) e ∙ s.1, inr (inl (e, refl)))
        | inr nb ↦ (m, below, s.2 m na nb, inr (inr (na, nb, refl)))
      ]
    ] in
    let x = came i (omega arith) in
    let y = came k (omega arith) in
    let other : x.0 ≢ y.0 = λ e. ne (same_from a b i k x.0 y.0 x.3 y.3 e) in
    λ e. apart x.0 y.0 x.1 y.1 other (sym x.2 ∙ e ∙ y.2)
  where
    same_from : (a b i k f g : ℕ) → ((i ≡ a) × (f ≡ b)) ⊎ (((i ≡ b) × (f ≡ a)) ⊎ ((i ≢ a) × (i ≢ b) × (f ≡ i))) → ((k ≡ a) × (g ≡ b)) ⊎ (((k ≡ b) × (g ≡ a)) ⊎ ((k ≢ a) × (k ≢ b) × (g ≡ k))) → f ≡ g → i ≡ k
    same_from a b i k f g x y e = grind arith
