-- Boxes: one more, its parts, and what they leave of the others.
use Rattle.std.proofs.Common.{◌≡◌, ◌⊎◌, inl, inr, ℕ, zero, suc, ◌+◌, ◌<◌, ◌≤◌, Bool, true, false, not, List, [], ◌∷◌, ◌++◌, length, refl, sym, subst, ◌∙◌, ℤ, ◌≤ℤ◌, arith}
use Rattle.std.specs.Prelude.{int_lt, pos, ◌-ℤ◌, ◌<ℤ◌, ◌^◌, slice_index_or, slice_set}
use Rattle.std.specs.List.{Contains, filter}
use Rattle.std.proofs.lemmas.Bool.{and_parts, and_from, not-true, not_from_false, cases_lt}
use Rattle.std.proofs.lemmas.Int.{ints}
use Rattle.std.proofs.lemmas.List.Elements.{All-get_or, Contains-append_left, Contains-push, Contains-push_cases}
use Rattle.scut_base.proofs.Lists.{Contains-nil, Contains-from_filter, Contains-filter}
use Rattle.front_set.specs.Vector.{is_below, IsBelow}
use Rattle.front_set.proofs.FrontLaws.{IsBelow-trans, length-IsBelow}
use Rattle.relaxations.specs.Boxes.{AreOfWord, Excludes, IsOpen}
use Rattle.relaxations.specs.Parts.{AddsBox, AddsParts, IsLessBefore}

-- ---- a box more

-- a box that is within another adds nothing
pub within_adds : (boxes : List (List ℤ)) (limits other : List ℤ) → Contains boxes other → IsBelow limits other → AddsBox boxes boxes limits
within_adds boxes limits other among within = record {
  only = λ v is-open. inl is-open;
  stays = λ v is-open. is-open;
  added = λ v below. (other, among, IsBelow-trans v limits other below within);
}

-- a box, instead of those that are within it
pub pushed_adds : (boxes : List (List ℤ)) (limits : List ℤ)
    → AddsBox boxes (filter (λ b. not (is_below b limits)) boxes ++ limits ∷ []) limits
pushed_adds boxes limits = record { only = only; stays = stays; added = λ v below. (limits, Contains-push kept limits, below) }
  where
    kept : List (List ℤ)
    kept = filter (λ b. not (is_below b limits)) boxes

    only : (v : List ℤ) → IsOpen (kept ++ limits ∷ []) v → IsOpen boxes v ⊎ IsBelow v limits
    only v (b, among, below) = elim (Contains-push_cases kept limits b among) [
      | inl old ↦ inl (b, (Contains-from_filter (λ b. not (is_below b limits)) boxes b old).0, below)
      | inr same ↦ inr (subst (λ (u : List ℤ). IsBelow v u) (sym same) below)
    ]

    stays : (v : List ℤ) → IsOpen boxes v → IsOpen (kept ++ limits ∷ []) v
    stays v (b, among, below) = by (is_below b limits) refl
      where
        by : (t : Bool) → is_below b limits ≡ t → IsOpen (kept ++ limits ∷ []) v
        by true e = (limits, Contains-push kept limits, IsBelow-trans v b limits below e)
        by false e = (b, Contains-append_left kept (limits ∷ []) b (Contains-filter (λ b. not (is_below b limits)) boxes b among (not_from_false (is_below b limits) e)), below)

-- ---- parts

-- one number against another, as a test and as a fact
le_from_test : (x y : ℤ) → not (int_lt y x) ≡ true → x ≤ℤ y
le_from_test x y h = grind (arith, ints, not-true (int_lt y x) h)

test_from_le : (x y : ℤ) → x ≤ℤ y → not (int_lt y x) ≡ true
test_from_le x y h = not_from_false (int_lt y x) (grind (arith, ints))

abbrev number : List ℤ → ℕ → ℤ
number v i = slice_index_or v i (pos 0)

-- a vector within the part of a box is within the box, and its number there is at most the part's
below_from_part : (v limits : List ℤ) (i : ℕ) (most : ℤ) → i < length limits → most ≤ℤ number limits i
    → IsBelow v (slice_set limits i most) → IsBelow v limits × (number v i ≤ℤ most)
below_from_part v [] i most there less below = absurd (omega arith)
below_from_part [] (l ∷ ls) zero most there less below = cc
below_from_part [] (l ∷ ls) (suc i) most there less below = cc
below_from_part (x ∷ xs) (l ∷ ls) zero most there less below =
    let parts = and_parts (not (int_lt most x)) (is_below xs ls) below in
    let x-most : x ≤ℤ most = le_from_test x most parts.0 in
    (and_from (not (int_lt l x)) (is_below xs ls) (test_from_le x l (omega (arith, ints))) parts.1, x-most)
below_from_part (x ∷ xs) (l ∷ ls) (suc i) most there less below =
    let parts = and_parts (not (int_lt l x)) (is_below xs (slice_set ls i most)) below in
    let rest = below_from_part xs ls i most (omega arith) less parts.1 in
    (and_from (not (int_lt l x)) (is_below xs ls) parts.0 rest.0, rest.1)

-- a vector within a box, whose number there is at most the part's, is within the part
below_part : (v limits : List ℤ) (i : ℕ) (most : ℤ) → i < length limits → number v i ≤ℤ most
    → IsBelow v limits → IsBelow v (slice_set limits i most)
below_part v [] i most there less below = absurd (omega arith)
below_part [] (l ∷ ls) i most there less below = cc
below_part (x ∷ xs) (l ∷ ls) zero most there less below =
    let parts = and_parts (not (int_lt l x)) (is_below xs ls) below in
    and_from (not (int_lt most x)) (is_below xs ls) (test_from_le x most less) parts.1
below_part (x ∷ xs) (l ∷ ls) (suc i) most there less below =
    let parts = and_parts (not (int_lt l x)) (is_below xs ls) below in
    and_from (not (int_lt l x)) (is_below xs (slice_set ls i most)) parts.0 (below_part xs ls i most (omega arith) less parts.1)

-- each number of a vector is at most that of one it is below
pub number_below : (u v : List ℤ) (i : ℕ) → i < length u → IsBelow u v → number u i ≤ℤ number v i
number_below [] v i there below = absurd (omega arith)
number_below (x ∷ xs) [] i there below = cc
number_below (x ∷ xs) (y ∷ ys) zero there below = le_from_test x y (and_parts (not (int_lt y x)) (is_below xs ys) below).0
number_below (x ∷ xs) (y ∷ ys) (suc i) there below = number_below xs ys i (omega arith) (and_parts (not (int_lt y x)) (is_below xs ys) below).1

-- of vectors of one length, one is below the other, or the other has a lesser number
less_somewhere : (u v : List ℤ) → length u ≡ length v → (IsBelow u v → ⊥) → IsLessBefore (length v) v u
less_somewhere [] [] same apart = absurd (apart refl)
less_somewhere [] (y ∷ ys) same apart = absurd (omega (arith, same))
less_somewhere (x ∷ xs) [] same apart = absurd (omega (arith, same))
less_somewhere (x ∷ xs) (y ∷ ys) same apart = by (int_lt y x) refl (less_somewhere xs ys (omega (arith, same)))
  where
    by : (b : Bool) → int_lt y x ≡ b → ((IsBelow xs ys → ⊥) → IsLessBefore (length ys) ys xs) → IsLessBefore (suc (length ys)) (y ∷ ys) (x ∷ xs)
    by true e rest = (0, omega arith, grind (arith, ints, e))
    by false e rest =
        let later = rest (λ below. apart (and_from (not (int_lt y x)) (is_below xs ys) (not_from_false (int_lt y x) e) below)) in
        (suc later.0, omega (arith, later.1), later.2)

-- ---- the parts of a box, one objective after another

pub no_parts : (boxes : List (List ℤ)) (limits costs : List ℤ) → AddsParts boxes boxes limits costs 0
no_parts boxes limits costs = record {
  only = λ v is-open. inl is-open;
  stays = λ v is-open. is-open;
  added = λ v word below less. absurd (omega (arith, less.1));
}

-- the number of an objective that nothing is less than gives no part
pub part_skipped : (old new : List (List ℤ)) (limits costs : List ℤ) (k : ℕ) → k < length limits
    → number costs k ≤ℤ (pos 0 -ℤ pos (2 ^ 63)) → AddsParts old new limits costs k → AddsParts old new limits costs (k + 1)
part_skipped old new limits costs k there least adds = record { only = only; stays = adds.stays; added = added }
  where
    only : (v : List ℤ) → IsOpen new v → IsOpen old v ⊎ (IsBelow v limits × IsLessBefore (k + 1) v costs)
    only v is-open = elim (adds.only v is-open) [
      | inl before ↦ inl before
      | inr part ↦ inr (part.0, (part.1.0, omega (arith, part.1.1), part.1.2))
    ]

    added : (v : List ℤ) → AreOfWord v → IsBelow v limits → IsLessBefore (k + 1) v costs → IsOpen new v
    added v word below (i, early, less) = by (cases_lt i k)
      where
        by : ((i < k) ⊎ (k ≤ i)) → IsOpen new v
        by (inl before) = adds.added v word below (i, before, less)
        by (inr late) =
            let same : i ≡ k = omega (arith, early, late) in
            let long = length-IsBelow v limits below in
            let of-word : (pos 0 -ℤ pos (2 ^ 63)) ≤ℤ number v i = All-get_or (λ (c : ℤ). (pos 0 -ℤ pos (2 ^ 63)) ≤ℤ c) v i (pos 0) (omega (arith, same, long, there)) word in
            let less-k : number v i <ℤ number costs k = subst (λ (j : ℕ). number v i <ℤ number costs j) same less in
            absurd (omega (arith, ints, of-word, less-k, least))

-- the part where an objective is less than here
pub part_added : (old new more : List (List ℤ)) (limits costs : List ℤ) (k : ℕ) (most : ℤ) → k < length limits → IsBelow costs limits
    → most ≡ number costs k -ℤ pos 1 → AddsBox new more (slice_set limits k most)
    → AddsParts old new limits costs k → AddsParts old more limits costs (k + 1)
part_added old new more limits costs k most there within is box adds =
    record { only = only; stays = λ v is-open. box.stays v (adds.stays v is-open); added = added }
  where
    at-most : number costs k ≤ℤ number limits k
    at-most = number_below costs limits k (omega (arith, length-IsBelow costs limits within, there)) within

    only : (v : List ℤ) → IsOpen more v → IsOpen old v ⊎ (IsBelow v limits × IsLessBefore (k + 1) v costs)
    only v is-open = elim (box.only v is-open) [
      | inl before ↦ (elim (adds.only v before) [
        | inl first ↦ inl first
        | inr part ↦ inr (part.0, (part.1.0, omega (arith, part.1.1), part.1.2))
      ])
      | inr part ↦
          (let inside = below_from_part v limits k most there (omega (arith, ints, is, at-most)) part in
          inr (inside.0, (k, omega arith, omega (arith, ints, is, inside.1))))
    ]

    added : (v : List ℤ) → AreOfWord v → IsBelow v limits → IsLessBefore (k + 1) v costs → IsOpen more v
    added v word below (i, early, less) = by (cases_lt i k)
      where
        by : ((i < k) ⊎ (k ≤ i)) → IsOpen more v
        by (inl before) = box.stays v (adds.added v word below (i, before, less))
        by (inr late) =
            let same : i ≡ k = omega (arith, early, late) in
            let less-k : number v k <ℤ number costs k = subst (λ (j : ℕ). number v j <ℤ number costs j) same less in
            box.added v (below_part v limits k most there (omega (arith, ints, is, less-k)) below)

-- ---- boxes, one after another

pub nothing_excluded : (costs : List ℤ) → Excludes [] [] costs
nothing_excluded costs = record {
  only = λ v is-open. absurd (Contains-nil is-open.0 is-open.1);
  all = λ v word is-open apart. is-open;
}

open_push : (boxes : List (List ℤ)) (limits v : List ℤ) → IsOpen (boxes ++ limits ∷ []) v → IsOpen boxes v ⊎ IsBelow v limits
open_push boxes limits v (b, among, below) = elim (Contains-push_cases boxes limits b among) [
  | inl old ↦ inl (b, old, below)
  | inr same ↦ inr (subst (λ (u : List ℤ). IsBelow v u) (sym same) below)
]

open_before : (boxes : List (List ℤ)) (limits v : List ℤ) → IsOpen boxes v → IsOpen (boxes ++ limits ∷ []) v
open_before boxes limits v (b, among, below) = (b, Contains-append_left boxes (limits ∷ []) b among, below)

-- a box that this vector isn't in stays
pub box_stays : (done boxes more : List (List ℤ)) (limits costs : List ℤ) → is_below costs limits ≡ false
    → AddsBox boxes more limits → Excludes done boxes costs → Excludes (done ++ limits ∷ []) more costs
box_stays done boxes more limits costs outside box excludes = record { only = only; all = all }
  where
    only : (v : List ℤ) → IsOpen more v → IsOpen (done ++ limits ∷ []) v × (IsBelow costs v → ⊥)
    only v is-open = elim (box.only v is-open) [
      | inl before ↦ (let was = excludes.only v before in (open_before done limits v was.0, was.1))
      | inr below ↦ (
        (limits, Contains-push done limits, below),
        λ above. (let reached : is_below costs limits ≡ true = IsBelow-trans costs v limits above below in cc),
      )
    ]

    all : (v : List ℤ) → AreOfWord v → IsOpen (done ++ limits ∷ []) v → (IsBelow costs v → ⊥) → IsOpen more v
    all v word is-open apart = elim (open_push done limits v is-open) [
      | inl before ↦ box.stays v (excludes.all v word before apart)
      | inr below ↦ box.added v below
    ]

-- a box that this vector is in falls into its parts
pub box_falls : (done boxes more : List (List ℤ)) (limits costs : List ℤ) → IsBelow costs limits
    → AddsParts boxes more limits costs (length limits) → Excludes done boxes costs → Excludes (done ++ limits ∷ []) more costs
box_falls done boxes more limits costs within parts excludes = record { only = only; all = all }
  where
    only : (v : List ℤ) → IsOpen more v → IsOpen (done ++ limits ∷ []) v × (IsBelow costs v → ⊥)
    only v is-open = elim (parts.only v is-open) [
      | inl before ↦ (let was = excludes.only v before in (open_before done limits v was.0, was.1))
      | inr part ↦ (
        (limits, Contains-push done limits, part.0),
        λ above. (
            let i = part.1.0 in
            let reached = number_below costs v i (omega (arith, length-IsBelow costs limits within, part.1.1)) above in
            absurd (omega (arith, ints, reached, part.1.2))
            ),
      )
    ]

    all : (v : List ℤ) → AreOfWord v → IsOpen (done ++ limits ∷ []) v → (IsBelow costs v → ⊥) → IsOpen more v
    all v word is-open apart = elim (open_push done limits v is-open) [
      | inl before ↦ parts.stays v (excludes.all v word before apart)
      | inr below ↦
          (let long = length-IsBelow v limits below in
          let same = length-IsBelow costs limits within in
          let less = less_somewhere costs v (same ∙ sym long) apart in
          parts.added v word below (less.0, omega (arith, less.1, long), less.2))
    ]
