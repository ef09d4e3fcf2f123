-- Places in lists that were joined.
use Rattle.std.proofs.Common.{◌≡◌, ◌⊎◌, inl, inr, ⊎_elim, List, [], ◌∷◌, ◌++◌, length, refl, arith, ap, sym, subst, ◌∙◌}
use Rattle.std.specs.List.{All}
use Rattle.std.proofs.lemmas.List.{length-append}
use Rattle.std.proofs.lemmas.List.Elements.{All-nil, All-cons, All-head}
use Rattle.scut_base.proofs.Lists.{head_same, tail_same}
use Rattle.proof_laws.proofs.Ranges.{all_suffix}

-- no list that has an element is empty
pub not_empty : {X : Type 0} (first after : List X) (y : X) → [] ≡ first ++ (y ∷ after) → ⊥
not_empty first after y e =
    let sizes = ap length e in
    let whole = length-append first (y ∷ after) in
    omega (arith, sizes, whole)

-- the one place in a list of one element
pub only_place : {X : Type 0} (first after : List X) (x y : X) → x ∷ [] ≡ first ++ (y ∷ after) → (x ≡ y) × (first ≡ [])
only_place [] after x y e = (head_same x y [] after e, refl)
only_place (b ∷ first) after x y e = absurd (not_empty first after y (tail_same x b [] (first ++ (y ∷ after)) e))

-- a place in two lists that were joined is one in the first, or one in the second
pub in_joined : {X : Type 0} (xs ys first after : List X) (y : X) → xs ++ ys ≡ first ++ (y ∷ after) →
    ((rest : List X) × (xs ≡ first ++ (y ∷ rest))) ⊎
    ((front : List X) × (first ≡ xs ++ front) × (ys ≡ front ++ (y ∷ after)))
in_joined [] ys first after y e = inr (first, refl, e)
in_joined (a ∷ xs) ys [] after y e = inl (xs, ap (λ z. z ∷ xs) (head_same a y (xs ++ ys) after e))
in_joined {X} (a ∷ xs) ys (b ∷ first) after y e =
    let heads : a ≡ b = head_same a b (xs ++ ys) (first ++ (y ∷ after)) e in
    ⊎_elim
    (λ (early : (rest : List X) × (xs ≡ first ++ (y ∷ rest))). inl
    (early.0, ap (λ (z : X). z ∷ xs) heads ∙ ap (λ (zs : List X). b ∷ zs) early.1))
    (λ (late : (front : List X) × (first ≡ xs ++ front) × (ys ≡ front ++ (y ∷ after))). inr
    (late.0, ap (λ (zs : List X). b ∷ zs) late.1 ∙ ap (λ (z : X). z ∷ (xs ++ late.0)) (sym heads), late.2))
    (in_joined xs ys first after y (tail_same a b (xs ++ ys) (first ++ (y ∷ after)) e))

-- what holds of each element holds at a place
pub at_place : {X : Type 0} (P : X → Type 0) (xs first after : List X) (y : X) → xs ≡ first ++ (y ∷ after) →
    All P xs → P y
at_place P xs first after y e all = All-head P y after (all_suffix P first (y ∷ after) (subst (All P) e all))

-- what holds at each place holds of each element
pub from_places : {X : Type 0} (P : X → Type 0) (xs : List X) →
    ((first : List X) (y : X) (after : List X) → xs ≡ first ++ (y ∷ after) → P y) → All P xs
from_places P [] places = All-nil P
from_places P (x ∷ xs) places = All-cons P x xs (places [] x xs refl)
    (from_places P xs (λ first y after e. places (x ∷ first) y after (ap (λ zs. x ∷ zs) e)))
