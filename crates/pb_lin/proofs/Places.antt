-- Places in lists whose numbers rise: the first element whose number isn't below a given one.
use Rattle.std.proofs.Common.{◌≡◌, ◌≢◌, ◌⊎◌, ℕ, ◌<◌, ◌≤◌, List, length, get_or, arith, true, false, ltb, ⊎_elim, inl, inr, ap, ◌∙◌, subst}
use Rattle.std.proofs.lemmas.List.{get_or_default}
use Rattle.std.specs.List.{All, AllPairs}
use Rattle.std.specs.List.Sorted.{IsNonDecreasingBy, IsPartitionPoint}
use Rattle.std.proofs.lemmas.Bool.{cases_lt, cases_order, ltb-true, ltb-false}
use Rattle.pb_lin.specs.Place.{IsPlace}

-- numbers that rise don't fall
pub IsNonDecreasingBy-rising : {X : Type 0} (n : X → ℕ) (xs : List X) → AllPairs (λ x y. n x < n y) xs → IsNonDecreasingBy n xs
IsNonDecreasingBy-rising {X} n xs up i j d le short = ⊎_elim (λ (h : i < j). let k : n (get_or xs i d) < n (get_or xs j d) = up i j d h short in omega arith) (λ (h : j ≤ i). let e : i ≡ j = omega arith in subst (λ (k : ℕ). n (get_or xs i d) ≤ n (get_or xs k d)) e (omega arith)) (cases_lt i j)

-- from the test that the number is below
pub IsPlace-from_point : {X : Type 0} (n : X → ℕ) (xs : List X) (number i : ℕ) → i ≤ length xs → IsPartitionPoint (λ y. ltb (n y) number ≡ true) (λ y. ltb (n y) number ≡ false) xs i → IsPlace n xs number i
IsPlace-from_point n xs number i bound point = record {
  bound = bound;
  below = λ k d h. ltb-true _ _ (point.0 k d (omega arith) h);
  above = λ k d h short. ltb-false _ _ (point.1 k d h short);
}

-- only the element at the place can have the number
pub at_place : {X : Type 0} (n : X → ℕ) (xs : List X) (number i : ℕ) → AllPairs (λ x y. n x < n y) xs → IsPlace n xs number i → (k : ℕ) (d : X) → k < length xs → n (get_or xs k d) ≡ number → k ≡ i
at_place {X} n xs number i up place k d short e = ⊎_elim (λ (h : k ≡ i). h) (λ (h : (k < i) ⊎ (i < k)). absurd (⊎_elim before behind h)) (cases_order k i)
  where
    before : k < i → ⊥
    before h = let b : n (get_or xs k d) < number = place.below k d h in omega arith

    behind : i < k → ⊥
    behind h =
        let more : n (get_or xs i d) < n (get_or xs k d) = up i k d h short in
        let least : number ≤ n (get_or xs i d) = place.above i d (omega arith) (omega arith) in
        omega arith

-- where that one hasn't, none has
pub none_at_place : {X : Type 0} (n : X → ℕ) (xs : List X) (number i : ℕ) → AllPairs (λ x y. n x < n y) xs → IsPlace n xs number i → ((d : X) → i < length xs → n (get_or xs i d) ≡ number → ⊥) → All (λ x. n x ≢ number) xs
none_at_place {X} n xs number i up place other k d short e =
    let same : k ≡ i = at_place n xs number i up place k d short e in
    other d (subst (λ (j : ℕ). j < length xs) same short) (subst (λ (j : ℕ). n (get_or xs j d) ≡ number) same e)

-- all before are below the number, and the one that is there isn't
pub IsPlace-from_step : {X : Type 0} (n : X → ℕ) (xs : List X) (number i : ℕ) (x : X) → AllPairs (λ y z. n y < n z) xs → i < length xs → ((k : ℕ) (d : X) → k < i → n (get_or xs k d) < number) → x ≡ get_or xs i x → number ≤ n x → IsPlace n xs number i
IsPlace-from_step {X = X} n xs number i x rising short below is least = record {
  bound = omega arith;
  below = below;
  above = λ k d from within. by k d from within (cases_lt i k);
}
  where
    by : (k : ℕ) (d : X) → i ≤ k → k < length xs → (i < k) ⊎ (k ≤ i) → number ≤ n (get_or xs k d)
    by k d from within (inl more) =
        let here : n x ≡ n (get_or xs i d) = ap n (is ∙ get_or_default xs i x d short) in
        let rise : n (get_or xs i d) < n (get_or xs k d) = rising i k d more within in
        omega arith
    by k d from within (inr less) =
        let here : n x ≡ n (get_or xs i d) = ap n (is ∙ get_or_default xs i x d short) in
        let same : i ≡ k = omega arith in
        subst (λ (m : ℕ). number ≤ n (get_or xs m d)) same (omega arith)
