-- The table of places, as two variables of the heap change places.
use Rattle.std.proofs.Common.{◌≡◌, ◌≢◌, ℕ, ◌+◌, ◌-◌, ◌^◌, ◌<◌, ◌≤◌, List, length, get_or, set, arith, ap, sym, ◌∙◌, subst, ⊎_elim, length-set, get_or-set_other, get_or-set_same}
use Rattle.std.specs.List.{swap}
use Rattle.std.proofs.lemmas.Bool.{cases_eq, cases_lt}
use Rattle.std.proofs.lemmas.List.{get_or_default}
use Rattle.std.proofs.lemmas.List.Edits.{Swapped, swapped_from_swap, length-swap}
use Rattle.cdcl_state.specs.Heap.{ArePlaces, CountsOn}

pub places_swapped : (n : ℕ) (vars places : List ℕ) (count i j : ℕ) (more : List ℕ) → ArePlaces n vars places count → i < n → j < n → more ≡ swap vars i j
    → ArePlaces n more (set (set places (get_or vars i 0 - 1) j) (get_or vars j 0 - 1) i) count
places_swapped n vars places count i j more are in_i in_j is = record {
  room = ap length is ∙ length-swap vars i j ∙ are.room;
  small = are.small;
  placed = length-set (set places a j) b i ∙ length-set places a j ∙ are.placed;
  counted = are.counted;
  below = λ var positive within. ⊎_elim
      (λ (e : var - 1 ≡ b). subst (λ (p : ℕ). p < n) (sym (ap place e ∙ at_b)) in_i)
      (λ (ne : var - 1 ≢ b). ⊎_elim
      (λ (e : var - 1 ≡ a). subst (λ (p : ℕ). p < n) (sym (ap place e ∙ at_a (λ (same : a ≡ b). ne (e ∙ same)))) in_j)
      (λ (other : var - 1 ≢ a). subst (λ (p : ℕ). p < n) (sym (at_other (var - 1) other ne)) (are.below var positive within))
      (cases_eq (var - 1) a))
      (cases_eq (var - 1) b);
  there = λ var positive within. ⊎_elim
      (λ (e : var - 1 ≡ b). ap (λ (p : ℕ). get_or more p 0) (ap place e ∙ at_b) ∙ swapped.0 ∙ same_var j var in_j positive (sym e))
      (λ (ne : var - 1 ≢ b). ⊎_elim
      (λ (e : var - 1 ≡ a). ap (λ (p : ℕ). get_or more p 0) (ap place e ∙ at_a (λ (same : a ≡ b). ne (e ∙ same))) ∙ swapped.1 ∙ same_var i var in_i positive (sym e))
      (λ (other : var - 1 ≢ a).
      let p = get_or places (var - 1) 0 in
      let own : get_or vars p 0 ≡ var = are.there var positive within in
      ap (λ (q : ℕ). get_or more q 0) (at_other (var - 1) other ne)
      ∙ swapped.2 p (λ (e : p ≡ i). other (ap (λ (v : ℕ). v - 1) (sym own ∙ ap (λ (q : ℕ). get_or vars q 0) e))) (λ (e : p ≡ j). ne (ap (λ (v : ℕ). v - 1) (sym own ∙ ap (λ (q : ℕ). get_or vars q 0) e))) ∙ own)
      (cases_eq (var - 1) a))
      (cases_eq (var - 1) b);
  positive = λ k inside. let m = moved k inside in subst (λ (v : ℕ). 0 < v) (sym m.2) (are.positive m.0 m.1);
  within = λ k inside. let m = moved k inside in subst (λ (v : ℕ). v ≤ n) (sym m.2) (are.within m.0 m.1);
  found = λ k inside. ⊎_elim
      (λ (e : k ≡ j). ap (λ (q : ℕ). place (get_or more q 0 - 1)) e ∙ ap (λ (v : ℕ). place (v - 1)) swapped.1 ∙ ⊎_elim
      (λ (same : a ≡ b). ap place same ∙ at_b ∙ injective i j in_i in_j same)
      (λ (apart : a ≢ b). at_a apart)
      (cases_eq a b) ∙ sym e)
      (λ (not_j : k ≢ j). ⊎_elim
      (λ (e : k ≡ i). ap (λ (q : ℕ). place (get_or more q 0 - 1)) e ∙ ap (λ (v : ℕ). place (v - 1)) swapped.0 ∙ at_b ∙ sym e)
      (λ (not_i : k ≢ i). ap (λ (v : ℕ). place (v - 1)) (swapped.2 k not_i not_j)
      ∙ at_other (get_or vars k 0 - 1) (λ e. not_i (injective k i inside in_i e)) (λ e. not_j (injective k j inside in_j e)) ∙ are.found k inside)
      (cases_eq k i))
      (cases_eq k j);
}
  where
    a : ℕ
    a = get_or vars i 0 - 1

    b : ℕ
    b = get_or vars j 0 - 1

    place : ℕ → ℕ
    place v = get_or (set (set places a j) b i) v 0

    swapped : Swapped (λ k. get_or vars k 0) (λ k. get_or more k 0) i j
    swapped = swapped_from_swap vars more i j 0 (omega (arith, are.room, in_i)) (omega (arith, are.room, in_j)) is

    same_var : (k var : ℕ) → k < n → 0 < var → get_or vars k 0 - 1 ≡ var - 1 → get_or vars k 0 ≡ var
    same_var k var inside positive e = let one = are.positive k inside in omega arith

    injective : (k m : ℕ) → k < n → m < n → get_or vars k 0 - 1 ≡ get_or vars m 0 - 1 → k ≡ m
    injective k m in_k in_m e = sym (are.found k in_k) ∙ ap (λ (v : ℕ). get_or places v 0) e ∙ are.found m in_m

    at_b : place b ≡ i
    at_b = get_or-set_same (set places a j) b i 0 (let one = are.positive j in_j in let two = are.within j in_j in omega (arith, are.placed, length-set places a j))

    at_a : a ≢ b → place a ≡ j
    at_a apart = get_or-set_other (set places a j) b a i 0 apart ∙ get_or-set_same places a j 0 (let one = are.positive i in_i in let two = are.within i in_i in omega (arith, are.placed))

    at_other : (v : ℕ) → v ≢ a → v ≢ b → place v ≡ get_or places v 0
    at_other v not_a not_b = get_or-set_other (set places a j) b v i 0 not_b ∙ get_or-set_other places a v j 0 not_a

    moved : (k : ℕ) → k < n → (m : ℕ) × (m < n) × (get_or more k 0 ≡ get_or vars m 0)
    moved k inside = ⊎_elim
        (λ (e : k ≡ i). (j, in_j, ap (λ (q : ℕ). get_or more q 0) e ∙ swapped.0))
        (λ (not_i : k ≢ i). ⊎_elim
        (λ (e : k ≡ j). (i, in_i, ap (λ (q : ℕ). get_or more q 0) e ∙ swapped.1))
        (λ (not_j : k ≢ j). (k, inside, swapped.2 k not_i not_j))
        (cases_eq k j))
        (cases_eq k i)

-- the place of a variable, read from the table
pub place_of : (n : ℕ) (vars places : List ℕ) (count var place : ℕ) → ArePlaces n vars places count → 0 < var → var ≤ n → place ≡ get_or places (var - 1) place
    → (place ≡ get_or places (var - 1) 0) × (place < n) × (get_or vars place 0 ≡ var)
place_of n vars places count var place are positive within is =
    let own : place ≡ get_or places (var - 1) 0 = is ∙ get_or_default places (var - 1) place 0 (omega (arith, are.placed)) in (
      own,
      subst (λ (p : ℕ). p < n) (sym own) (are.below var positive within),
      ap (λ (p : ℕ). get_or vars p 0) own ∙ are.there var positive within,
    )

-- the variable of a place, read from the list
pub var_of : (n : ℕ) (vars places : List ℕ) (count place var : ℕ) → ArePlaces n vars places count → place < n → var ≡ get_or vars place var
    → (var ≡ get_or vars place 0) × (0 < var) × (var ≤ n)
var_of n vars places count place var are inside is =
    let own : var ≡ get_or vars place 0 = is ∙ get_or_default vars place var 0 (omega (arith, are.room)) in (
      own,
      subst (λ (v : ℕ). 0 < v) (sym own) (are.positive place inside),
      subst (λ (v : ℕ). v ≤ n) (sym own) (are.within place inside),
    )

-- ---- more variables

pub places_longer : (n : ℕ) (vars more_vars places more_places : List ℕ) (count more : ℕ) → ArePlaces n vars places count → n + more < 2 ^ 32 → CountsOn vars more_vars 1 more → CountsOn places more_places 0 more → ArePlaces (n + more) more_vars more_places count
places_longer n vars more_vars places more_places count more are few v p = record {
  room = omega (arith, v.long, are.room);
  small = few;
  placed = omega (arith, p.long, are.placed);
  counted = omega (arith, are.counted);
  below = λ var positive within. ⊎_elim
      (λ (old : var - 1 < n). subst (λ (q : ℕ). q < n + more) (sym (p.kept (var - 1) (omega (arith, are.placed)))) (let b = are.below var positive (omega arith) in omega arith))
      (λ (new : n ≤ var - 1). let e = own_place (var - 1) new (omega arith) in omega arith)
      (cases_lt (var - 1) n);
  there = λ var positive within. ⊎_elim
      (λ (old : var - 1 < n).
      let b = are.below var positive (omega arith) in
      ap (λ (q : ℕ). get_or more_vars q 0) (p.kept (var - 1) (omega (arith, are.placed)))
      ∙ v.kept (get_or places (var - 1) 0) (omega (arith, are.room, b)) ∙ are.there var positive (omega arith))
      (λ (new : n ≤ var - 1).
      let e = own_var (var - 1) new (omega arith) in
      ap (λ (q : ℕ). get_or more_vars q 0) (own_place (var - 1) new (omega arith)) ∙ (omega arith))
      (cases_lt (var - 1) n);
  positive = λ k inside. ⊎_elim
      (λ (old : k < n). let e = v.kept k (omega (arith, are.room)) in let one = are.positive k old in omega arith)
      (λ (new : n ≤ k). let e = own_var k new inside in omega arith)
      (cases_lt k n);
  within = λ k inside. ⊎_elim
      (λ (old : k < n). let e = v.kept k (omega (arith, are.room)) in let one = are.within k old in omega arith)
      (λ (new : n ≤ k). let e = own_var k new inside in omega arith)
      (cases_lt k n);
  found = λ k inside. ⊎_elim
      (λ (old : k < n).
      let one = are.positive k old in
      let two = are.within k old in
      ap (λ (w : ℕ). get_or more_places (w - 1) 0) (v.kept k (omega (arith, are.room)))
      ∙ p.kept (get_or vars k 0 - 1) (omega (arith, are.placed, one, two)) ∙ are.found k old)
      (λ (new : n ≤ k).
      let e : get_or more_vars k 0 - 1 ≡ k = omega (arith, own_var k new inside) in
      ap (λ (w : ℕ). get_or more_places w 0) e ∙ own_place k new inside)
      (cases_lt k n);
}
  where
    own_var : (k : ℕ) → n ≤ k → k < n + more → get_or more_vars k 0 ≡ k + 1
    own_var k new inside = v.fresh k (omega (arith, are.room)) (omega (arith, are.room, v.long))

    own_place : (k : ℕ) → n ≤ k → k < n + more → get_or more_places k 0 ≡ k
    own_place k new inside = let e = p.fresh k (omega (arith, are.placed)) (omega (arith, are.placed, p.long)) in omega arith
