-- A sorted list of entries with distinct vectors rises strictly.
use Rattle.std.proofs.Common.{◌≡◌, ◌≢◌, ℕ, ◌<◌, suc, false, List, [], ◌∷◌, length, get_or, refl, sym, ◌∙◌, subst, ap, ℤ, arith, add-one}
use Rattle.std.specs.List.Sorted.{IsPermutation, IsSortedBy}
use Rattle.std.specs.Ordering.{is_lt, ordering_reverse}
use Rattle.std.specs.declared.cmp.Ordering.{Ordering}
use Rattle.std.specs.declared.cmp.Ordering.TheVariants.{Less, Equal, Greater}
use Rattle.scut_base.proofs.Lists.{AllPairs-permutation}
use Rattle.front_set.specs.declared.entry.Entry.{Entry}
use Rattle.front_set.specs.Vector.{IsBelow, vector_cmp, AreRising}
use Rattle.front_set.specs.Front.{vectors_of, AreIncomparable, AreDistinct}
use Rattle.front_set.proofs.FrontLaws.{IsBelow-refl, vector_cmp_total, equal_from_vector_cmp}

pub distinct_permuted : (xs ys : List Entry) → IsPermutation xs ys → AreDistinct xs → AreDistinct ys
distinct_permuted xs ys permuted once = AllPairs-permutation (λ (e f : Entry). e.costs ≢ f.costs) (λ e f differ same. differ (sym same)) xs ys permuted once

-- incomparable vectors differ
pub distinct_from_incomparable : (entries : List Entry) → AreIncomparable entries → AreDistinct entries
distinct_from_incomparable entries once = λ i j d less below same. (once i j d less below).0 (subst (λ (v : List ℤ). IsBelow (get_or entries i d).costs v) same (IsBelow-refl (get_or entries i d).costs))

-- of two vectors that differ, what isn't after comes before
before : (u v : List ℤ) → is_lt (vector_cmp v u) ≡ false → (u ≢ v) → vector_cmp u v ≡ Less
before u v not_after differ = by (vector_cmp v u) refl not_after
  where
    by : (o : Ordering) → vector_cmp v u ≡ o → is_lt o ≡ false → vector_cmp u v ≡ Less
    by Less e h = cc
    by Equal e h = absurd (differ (sym (equal_from_vector_cmp v u e)))
    by Greater e h = vector_cmp_total.antisymm u v ∙ ap ordering_reverse e

rising : (entries : List Entry) → ((k : ℕ) (d : Entry) → suc k < length entries → is_lt (vector_cmp (get_or entries (suc k) d).costs (get_or entries k d).costs) ≡ false) → AreDistinct entries → AreRising (vectors_of entries)
rising [] sorted once = tt
rising (e ∷ []) sorted once = tt
rising (e ∷ f ∷ rest) sorted once = (
  before e.costs f.costs (sorted 0 e (omega arith)) (once 0 1 e (omega arith) (omega arith)),
  rising (f ∷ rest) (λ k d below. sorted (suc k) d (omega arith)) (λ i j d less below. once (suc i) (suc j) d (omega arith) (omega arith)),
)

pub rising_from_sorted : (entries : List Entry) → IsSortedBy (λ e f. is_lt (vector_cmp e.costs f.costs)) entries → AreDistinct entries → AreRising (vectors_of entries)
rising_from_sorted entries sorted once = rising entries (λ k d below. rw (← add-one k) (sorted k d (omega arith) (omega arith))) once
