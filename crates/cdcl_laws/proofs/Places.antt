-- Places in lists that were joined.
use Rattle.std.proofs.Common.{◌≡◌, ◌⊎◌, inl, inr, ⊎_elim, List, [], ◌∷◌, ◌++◌, length, refl, arith, ap, sym, ◌∙◌, append-nil}
use Rattle.std.proofs.lemmas.List.{length-append}
use Rattle.scut_base.proofs.Lists.{head_same, tail_same}

-- no list that has an element is empty
pub not_empty : {X : Type 0} (first after : List X) (y : X) → [] ≡ first ++ (y ∷ after) → ⊥
not_empty first after y e = let sizes = ap length e in let whole = length-append first (y ∷ after) in omega (arith, sizes, whole)

-- the one place in a list of one element
pub only_place : {X : Type 0} (first after : List X) (x y : X) → x ∷ [] ≡ first ++ (y ∷ after) → (x ≡ y) × (first ≡ [])
only_place [] after x y e = (head_same x y [] after e, refl)
only_place (b ∷ first) after x y e = absurd (not_empty first after y (tail_same x b [] (first ++ (y ∷ after)) e))

-- a place in two lists that were joined is one in the first, or one in the second
pub in_joined : {X : Type 0} (xs ys first after : List X) (y : X) → xs ++ ys ≡ first ++ (y ∷ after) → ((rest : List X) × (xs ≡ first ++ (y ∷ rest))) ⊎ ((front : List X) × (first ≡ xs ++ front) × (ys ≡ front ++ (y ∷ after)))
in_joined [] ys first after y e = inr (first, refl, e)
in_joined (a ∷ xs) ys [] after y e = inl (xs, ap (λ z. z ∷ xs) (head_same a y (xs ++ ys) after e))
in_joined {X} (a ∷ xs) ys (b ∷ first) after y e =
    let heads : a ≡ b = head_same a b (xs ++ ys) (first ++ (y ∷ after)) e in
    ⊎_elim
    (λ (early : (rest : List X) × (xs ≡ first ++ (y ∷ rest))). inl (early.0, ap (λ (z : X). z ∷ xs) heads ∙ ap (λ (zs : List X). b ∷ zs) early.1))
    (λ (late : (front : List X) × (first ≡ xs ++ front) × (ys ≡ front ++ (y ∷ after))). inr (late.0, ap (λ (zs : List X). b ∷ zs) late.1 ∙ ap (λ (z : X). z ∷ (xs ++ late.0)) (sym heads), late.2))
    (in_joined xs ys first after y (tail_same a b (xs ++ ys) (first ++ (y ∷ after)) e))

-- a place in a list with one element more is the last, or a place before
pub at_end : {X : Type 0} (xs first after : List X) (x y : X) → xs ++ x ∷ [] ≡ first ++ (y ∷ after) → ((x ≡ y) × (first ≡ xs)) ⊎ ((rest : List X) × (xs ≡ first ++ (y ∷ rest)))
at_end {X} xs first after x y e = ⊎_elim
    (λ (early : (rest : List X) × (xs ≡ first ++ (y ∷ rest))). inr early)
    (λ (late : (front : List X) × (first ≡ xs ++ front) × (x ∷ [] ≡ front ++ (y ∷ after))).
    let one = only_place late.0 after x y late.2 in
    inl (one.0, late.1 ∙ ap (λ (zs : List X). xs ++ zs) one.1 ∙ append-nil xs))
    (in_joined xs (x ∷ []) first after y e)
