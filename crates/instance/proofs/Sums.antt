-- Sums of whole numbers along a list.
use Rattle.std.proofs.Common.{◌≡◌, ℕ, ◌+◌, ◌<◌, ◌≤◌, ℤ, ◌+ℤ◌, unsigned_abs, List, [], ◌∷◌, ◌++◌, length, take, get_or, sym, ap, ◌∙◌, arith}
use Rattle.std.specs.List.{sum_by}
use Rattle.std.proofs.lemmas.Int.{ints}
use Rattle.std.proofs.lemmas.List.{take_more}
use Rattle.std.proofs.lemmas.List.Sums.{sum_by_more}
use Rattle.instance.specs.Meaning.{int_sum_by}

pub int_sum_by_push : {X : Type 0} (f : X → ℤ) (xs : List X) (x : X) → int_sum_by f (xs ++ x ∷ []) ≡ int_sum_by f xs +ℤ f x
int_sum_by_push f [] x = omega (arith, ints)
int_sum_by_push f (y ∷ ys) x =
    let more : int_sum_by f (ys ++ x ∷ []) ≡ int_sum_by f ys +ℤ f x = int_sum_by_push f ys x in
    omega (arith, ints)

-- the sum of the elements so far, with one element more
pub sum_goes_on : {X : Type 0} (f : X → ℤ) (xs : List X) (i : ℕ) (x : X) (sum value : ℤ) → i < length xs → x ≡ get_or xs i x → sum ≡ int_sum_by f (take i xs) → value ≡ f x → sum +ℤ value ≡ int_sum_by f (take (i + 1) xs)
sum_goes_on f xs i x sum value lt is so_far one =
    let more : take (i + 1) xs ≡ take i xs ++ x ∷ [] = take_more xs i x lt ∙ ap (λ y. take i xs ++ y ∷ []) (sym is) in
    let pushed : int_sum_by f (take (i + 1) xs) ≡ int_sum_by f (take i xs) +ℤ f x = ap (int_sum_by f) more ∙ int_sum_by_push f (take i xs) x in
    omega (arith, ints)

-- the same of a bound on the magnitudes
pub bound_goes_on : {X : Type 0} (f : X → ℕ) (xs : List X) (i : ℕ) (x : X) (sum value : ℤ) → i < length xs → x ≡ get_or xs i x → unsigned_abs sum ≤ sum_by f (take i xs) → unsigned_abs value ≤ f x → unsigned_abs (sum +ℤ value) ≤ sum_by f (take (i + 1) xs)
bound_goes_on f xs i x sum value lt is so_far one =
    let more : sum_by f (take (i + 1) xs) ≡ sum_by f (take i xs) + f x = sum_by_more f xs i x lt ∙ ap (λ y. sum_by f (take i xs) + f y) (sym is) in
    omega (arith, ints)
