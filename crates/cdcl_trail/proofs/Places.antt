-- Elements of lists at places: in first parts, and with one more at the end.
use Rattle.std.proofs.Common.{◌≡◌, ◌⊎◌, ℕ, zero, suc, ◌<◌, List, [], ◌∷◌, ◌++◌, length, take, get_or, Some, All, AllPairs, refl, arith, ap, sym, ◌∙◌, subst, inl, inr}
use Rattle.std.specs.Prelude.{slice_get}
use Rattle.std.proofs.lemmas.List.{length-take, get_or-take}
use Rattle.std.proofs.lemmas.Option.{same_Some, slice_get_within, slice_get-get_or, get_or_from_slice_get}

pub slice_get-take : {X : Type 0} (xs : List X) (p q : ℕ) → q < p → slice_get (take p xs) q ≡ slice_get xs q
slice_get-take xs zero q before = absurd (omega arith)
slice_get-take [] (suc p) q before = refl
slice_get-take (x ∷ xs) (suc p) zero before = refl
slice_get-take (x ∷ xs) (suc p) (suc q) before = let h : q < p = omega arith in slice_get-take xs p q h

-- an element of a first part stands before its end, and at the same place of the whole
pub at_front : {X : Type 0} (xs : List X) (keep p : ℕ) (x : X) → slice_get (take keep xs) p ≡ Some x → (p < keep) × (slice_get xs p ≡ Some x)
at_front xs keep p x at =
    let within : p < length (take keep xs) = slice_get_within (take keep xs) p x at in
    let before : p < keep = omega (arith, within, length-take keep xs) in
    (before, sym (slice_get-take xs keep p before) ∙ at)

-- an element with one more at the end is of the list, or that one
pub at_push : {X : Type 0} (xs : List X) (y : X) (q : ℕ) (x : X) → slice_get (xs ++ y ∷ []) q ≡ Some x → ((q < length xs) × (slice_get xs q ≡ Some x)) ⊎ ((q ≡ length xs) × (y ≡ x))
at_push [] y zero x is = inr (refl, same_Some y x is)
at_push [] y (suc q) x is = cc
at_push (z ∷ xs) y zero x is = inl (omega arith, is)
at_push (z ∷ xs) y (suc q) x is = elim (at_push xs y q x is) [
  | inl h ↦ inl (let within : q < length xs = h.0 in omega arith, h.1)
  | inr h ↦ inr (ap suc h.0, h.1)
]

-- an element stays where it is
pub kept_by_push : {X : Type 0} (xs ys : List X) (q : ℕ) (x : X) → slice_get xs q ≡ Some x → slice_get (xs ++ ys) q ≡ Some x
kept_by_push [] ys q x at = cc
kept_by_push (z ∷ xs) ys zero x at = at
kept_by_push (z ∷ xs) ys (suc q) x at = kept_by_push xs ys q x at

-- what holds of each element at a place
pub all_places : {X : Type 0} (P : X → Type 0) (xs : List X) → ((p : ℕ) (x : X) → slice_get xs p ≡ Some x → P x) → All P xs
all_places P xs each k d within = each k (get_or xs k d) (slice_get-get_or xs k d within)

-- what holds of each two elements
pub pair_places : {X : Type 0} (R : X → X → Type 0) (xs : List X) (p q : ℕ) (x y : X) → AllPairs R xs → p < q → slice_get xs p ≡ Some x → slice_get xs q ≡ Some y → R x y
pair_places {X} R xs p q x y all less at_x at_y =
    subst (λ (z : X). R z y) (get_or_from_slice_get xs p x x at_x)
    (subst (λ (z : X). R (get_or xs p x) z) (get_or_from_slice_get xs q y x at_y) (all p q x less (slice_get_within xs q y at_y)))

-- what holds of each two elements holds in a first part
pub pairs_front : {X : Type 0} (R : X → X → Type 0) (xs : List X) (keep : ℕ) → AllPairs R xs → AllPairs R (take keep xs)
pairs_front {X} R xs keep all i j d less within =
    let before : j < keep = omega (arith, within, length-take keep xs) in
    subst (λ (x : X). R x (get_or (take keep xs) j d)) (sym (get_or-take keep xs i d (omega (arith, before, less))))
    (subst (R (get_or xs i d)) (sym (get_or-take keep xs j d before)) (all i j d less (omega (arith, within, length-take keep xs))))

-- and what holds of each
pub all_front : {X : Type 0} (P : X → Type 0) (xs : List X) (keep : ℕ) → All P xs → All P (take keep xs)
all_front P xs keep all k d within =
    let before : k < keep = omega (arith, within, length-take keep xs) in
    subst P (sym (get_or-take keep xs k d before)) (all k d (omega (arith, within, length-take keep xs)))
