-- The laws of the two orders of vectors: one is below another, and the lexicographic order.
use Rattle.std.proofs.Common.{◌≡◌, ◌≢◌, suc, Bool, true, false, not, List, [], ◌∷◌, length, refl, sym, ap, ℤ, ◌≤ℤ◌, arith}
use Rattle.std.specs.Prelude.{int_lt}
use Rattle.std.specs.Ordering.{int_cmp, ordering_then}
use Rattle.std.specs.declared.cmp.Ordering.{Ordering}
use Rattle.std.specs.declared.cmp.Ordering.TheVariants.{Less, Equal, Greater}
use Rattle.std.specs.Cmp.{IsTotalOrder}
use Rattle.std.proofs.lemmas.Bool.{and_parts, and_from, not-true, not_from_false}
use Rattle.std.proofs.lemmas.Cmp.{int_cmp_total, int_ranked, lists_total}
use Rattle.std.proofs.lemmas.Int.{ints}
use Rattle.front_set.specs.Vector.{is_below, IsBelow, vector_cmp}

-- one number is not below another, as a test and as a fact
le_from_test : (x y : ℤ) → not (int_lt y x) ≡ true → x ≤ℤ y
le_from_test x y h = grind (arith, ints, not-true (int_lt y x) h)

test_from_le : (x y : ℤ) → x ≤ℤ y → not (int_lt y x) ≡ true
test_from_le x y h = not_from_false (int_lt y x) (grind (arith, ints))

equal_from_tests : (x y : ℤ) → not (int_lt y x) ≡ true → not (int_lt x y) ≡ true → x ≡ y
equal_from_tests x y h g =
    let a : x ≤ℤ y = le_from_test x y h in
    let b : y ≤ℤ x = le_from_test y x g in
    omega (arith, ints)

-- each vector is below itself
pub IsBelow-refl : (u : List ℤ) → IsBelow u u
IsBelow-refl [] = refl
IsBelow-refl (x ∷ xs) = and_from (not (int_lt x x)) (is_below xs xs) (test_from_le x x (omega (arith, ints))) (IsBelow-refl xs)

pub IsBelow-trans : (u v w : List ℤ) → IsBelow u v → IsBelow v w → IsBelow u w
IsBelow-trans [] [] w h g = g
IsBelow-trans [] (y ∷ ys) w h g = cc
IsBelow-trans (x ∷ xs) [] w h g = cc
IsBelow-trans (x ∷ xs) (y ∷ ys) [] h g = g
IsBelow-trans (x ∷ xs) (y ∷ ys) (z ∷ zs) h g =
    let first = and_parts (not (int_lt y x)) (is_below xs ys) h in
    let second = and_parts (not (int_lt z y)) (is_below ys zs) g in
    let a : x ≤ℤ y = le_from_test x y first.0 in
    let b : y ≤ℤ z = le_from_test y z second.0 in
    and_from (not (int_lt z x)) (is_below xs zs) (test_from_le x z (omega (arith, ints))) (IsBelow-trans xs ys zs first.1 second.1)

-- two vectors, each of which is below the other, are the same
pub IsBelow-antisym : (u v : List ℤ) → IsBelow u v → IsBelow v u → u ≡ v
IsBelow-antisym [] [] h g = refl
IsBelow-antisym [] (y ∷ ys) h g = cc
IsBelow-antisym (x ∷ xs) [] h g = cc
IsBelow-antisym (x ∷ xs) (y ∷ ys) h g =
    let first = and_parts (not (int_lt y x)) (is_below xs ys) h in
    let second = and_parts (not (int_lt x y)) (is_below ys xs) g in
    let heads : x ≡ y = equal_from_tests x y first.0 second.0 in
    let tails : xs ≡ ys = IsBelow-antisym xs ys first.1 second.1 in
    cc

-- only vectors of one length are below each other
pub length-IsBelow : (u v : List ℤ) → IsBelow u v → length u ≡ length v
length-IsBelow [] [] h = refl
length-IsBelow [] (y ∷ ys) h = cc
length-IsBelow (x ∷ xs) [] h = cc
length-IsBelow (x ∷ xs) (y ∷ ys) h = ap suc (length-IsBelow xs ys (and_parts (not (int_lt y x)) (is_below xs ys) h).1)

pub is_below-lengths : (u v : List ℤ) → length u ≢ length v → is_below u v ≡ false
is_below-lengths u v differ = by (is_below u v) refl
  where
    by : (b : Bool) → is_below u v ≡ b → b ≡ false
    by true e = absurd (differ (length-IsBelow u v e))
    by false e = refl

-- the lexicographic order is a total order, and ties only equal vectors
pub vector_cmp_total : IsTotalOrder vector_cmp
vector_cmp_total = lists_total int_cmp_total

pub equal_from_vector_cmp : (u v : List ℤ) → vector_cmp u v ≡ Equal → u ≡ v
equal_from_vector_cmp [] [] h = refl
equal_from_vector_cmp [] (y ∷ ys) h = cc
equal_from_vector_cmp (x ∷ xs) [] h = cc
equal_from_vector_cmp (x ∷ xs) (y ∷ ys) h = by (int_cmp x y) refl (equal_from_vector_cmp xs ys) h
  where
    by : (o : Ordering) → int_cmp x y ≡ o → (vector_cmp xs ys ≡ Equal → xs ≡ ys) → ordering_then o (vector_cmp xs ys) ≡ Equal → (x ∷ xs) ≡ (y ∷ ys)
    by Less e same rest = cc
    by Equal e same rest =
        let heads : x ≡ y = int_ranked x y Equal (sym e) in
        let tails : xs ≡ ys = same rest in
        cc
    by Greater e same rest = cc
