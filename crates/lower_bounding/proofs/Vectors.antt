-- Vectors, number by number.
use Rattle.std.proofs.Common.{◌≡◌, ℕ, ◌+◌, ◌<◌, ◌≤◌, zero, suc, Bool, not, List, [], ◌∷◌, ◌++◌, map, length, refl, sym, subst, ⊎_elim, arith, ℤ, ◌≤ℤ◌, ◌<ℤ◌, pos}
use Rattle.std.specs.Prelude.{int_lt}
use Rattle.std.proofs.lemmas.Bool.{and_from, cases_lt, not_from_false}
use Rattle.std.proofs.lemmas.Int.{ints}
use Rattle.std.proofs.lemmas.List.{get_or_append_left, get_or_push}
use Rattle.front_set.specs.Vector.{is_below, IsBelow}
use Rattle.pb_lin.specs.CostRow.{CostRowValue, row_cost}
use Rattle.relaxations.specs.Telling.{number_at}
use Rattle.relaxations.proofs.Remaining.{parts_of}
use Rattle.sum_outputs.proofs.Glue.{value-le-total}
use Rattle.lower_bounding.specs.Fences.{greatest_cost, room}

-- ---- below

from_parts : (x y : ℤ) (u v : List ℤ) → x ≤ℤ y → IsBelow u v → IsBelow (x ∷ u) (y ∷ v)
from_parts x y u v first rest =
    and_from (not (int_lt y x)) (is_below u v) (not_from_false (int_lt y x) (grind (arith, ints))) rest

pub below_from : (u v : List ℤ) → length v ≡ length u → ((i : ℕ) → i < length u → number_at u i ≤ℤ number_at v i)
    → IsBelow u v
below_from [] [] long each = refl
below_from [] (y ∷ v) long each = absurd (omega arith)
below_from (x ∷ u) [] long each = absurd (omega arith)
below_from (x ∷ u) (y ∷ v) long each =
    from_parts x y u v (each 0 (omega arith)) (below_from u v (omega arith) (λ i short. each (suc i) (omega arith)))

-- ---- rows

pub costs_within : (x : List Bool) (rows : List CostRowValue) → IsBelow (map (row_cost x) rows) (map greatest_cost rows)
costs_within x [] = refl
costs_within x (r ∷ rows) =
    let most = value-le-total x r.terms in
    from_parts (row_cost x r) (greatest_cost r) (map (row_cost x) rows) (map greatest_cost rows)
    (omega (arith, ints)) (costs_within x rows)

pub offsets_within : (rows : List CostRowValue) → IsBelow (map (λ r. r.offset) rows) (map greatest_cost rows)
offsets_within [] = refl
offsets_within (r ∷ rows) =
    from_parts r.offset (greatest_cost r) (map (λ q. q.offset) rows) (map greatest_cost rows)
    (omega (arith, ints)) (offsets_within rows)

-- ---- room

room_most : (us vs gs : List ℤ) → IsBelow us vs → IsBelow vs gs → room vs gs ≤ room us gs
room_most [] [] gs below within = omega arith
room_most [] (v ∷ vs) gs below within = cc
room_most (u ∷ us) [] gs below within = cc
room_most (u ∷ us) (v ∷ vs) [] below within = omega arith
room_most (u ∷ us) (v ∷ vs) (g ∷ gs) below within =
    let one = parts_of u v us vs below in
    let other = parts_of v g vs gs within in
    let up = one.0 in
    let most = other.0 in
    let rest = room_most us vs gs one.1 other.1 in
    omega (arith, ints)

pub room_less : (i : ℕ) (us vs gs : List ℤ) → IsBelow us vs → IsBelow vs gs → i < length us
    → number_at us i <ℤ number_at vs i → room vs gs < room us gs
room_less i [] vs gs below within short less = absurd (omega arith)
room_less i (u ∷ us) [] gs below within short less = cc
room_less i (u ∷ us) (v ∷ vs) [] below within short less = cc
room_less zero (u ∷ us) (v ∷ vs) (g ∷ gs) below within short less =
    let one = parts_of u v us vs below in
    let other = parts_of v g vs gs within in
    let most = other.0 in
    let rest = room_most us vs gs one.1 other.1 in
    omega (arith, ints)
room_less (suc i) (u ∷ us) (v ∷ vs) (g ∷ gs) below within short less =
    let one = parts_of u v us vs below in
    let other = parts_of v g vs gs within in
    let up = one.0 in
    let most = other.0 in
    let rest = room_less i us vs gs one.1 other.1 (omega arith) less in
    omega (arith, ints)

-- ---- one number more

pub numbers_more : (P : ℕ → ℤ → Type 0) (k : ℕ) (ns : List ℤ) (n : ℤ) → length ns ≡ k
    → ((i : ℕ) → i < k → P i (number_at ns i)) → P k n → (i : ℕ) → i < k + 1 → P i (number_at (ns ++ n ∷ []) i)
numbers_more P k ns n count before here i short = ⊎_elim
    (λ (less : i < k). subst (P i) (sym (get_or_append_left ns (n ∷ []) (pos 0) i (omega arith))) (before i less))
    (λ (more : k ≤ i).
    let at : k ≡ i = omega arith in
    subst (λ (j : ℕ). P j (number_at (ns ++ n ∷ []) j)) at
    (subst (P k) (sym (get_or_push ns n (pos 0) k count)) here))
    (cases_lt i k)
