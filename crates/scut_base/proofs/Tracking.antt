-- The places of set values, as values are set, cleared and added.
use Rattle.std.proofs.Common.{◌≡◌, ◌≢◌, ◌⊎◌, ℕ, zero, ◌+◌, ◌-◌, ◌<◌, ◌≤◌, ◌++◌, Bool, true, List, length, get_or, set, replicate, Option, None, Some, cond, refl, arith, ap, sym, ◌∙◌, ⊎_elim, inl, inr, count_by, length-set, get_or-set_other, get_or-set_same}
use Rattle.std.proofs.Math.ListN.{get_or-eq_default}
use Rattle.std.specs.Prelude.{option_map}
use Rattle.std.specs.Option.{is_some}
use Rattle.std.proofs.lemmas.Bool.{cases_eq, cases_lt}
use Rattle.std.proofs.lemmas.List.{same_lists, get_or-append_right, get_or_append_left, get_or-replicate, length-append, length-replicate, get_or_default}
use Rattle.std.proofs.lemmas.List.Sums.{sum_by-append, sum_by-set, count_by-le-length}
use Rattle.scut_base.specs.Tracked.{IsTracked}
use Rattle.scut_base.proofs.Lists.{sum_by_zero}

abbrev Values : Type 0
Values = List (Option Bool)

-- one more is set
count_set : (values : Values) (i : ℕ) (b : Bool) → i < length values → get_or values i None ≡ None → count_by is_some (set values i (Some b)) ≡ count_by is_some values + 1
count_set values i b short open' =
    let sums = sum_by-set (λ x. cond (is_some x) 1 0) values i (Some b) None short in
    let none : cond (is_some (get_or values i None)) 1 0 ≡ zero = ap (λ (x : Option Bool). cond (is_some x) 1 zero) open' in
    omega arith

-- where one is open, not all are set
pub count_below : (values : Values) (i : ℕ) → i < length values → get_or values i None ≡ None → count_by is_some values < length values
count_below values i short open' =
    let more = count_set values i true short open' in
    let most = count_by-le-length is_some (set values i (Some true)) in
    let long = length-set values i (Some true) in
    omega arith

pub tracked_set : (values : Values) (places : List ℕ) (n i : ℕ) (b : Bool) → IsTracked values places n → i < length values → get_or values i None ≡ None → IsTracked (set values i (Some b)) (set places n i) (n + 1)
tracked_set values places n i b is short open' = record {
  room = let r = is.room in let v = length-set values i (Some b) in let p = length-set places n i in omega arith;
  count = let c = is.count in let more = count_set values i b short open' in omega arith;
  within = λ j less. let v = length-set values i (Some b) in ⊎_elim
      (λ (e : j ≡ n). let at = here j e in omega arith)
      (λ (ne : j ≢ n). let other = get_or-set_other places n j i 0 ne in let w = is.within j (omega arith) in omega arith)
      (cases_eq j n);
  listed = λ k less. ⊎_elim
      (λ (e : k ≡ i). inr (n, omega arith, here n refl ∙ sym e))
      (λ (ne : k ≢ i). ⊎_elim
      (λ (o : get_or values k None ≡ None). inl (get_or-set_other values i k (Some b) None ne ∙ o))
      (λ (f : (j : ℕ) × (j < n) × (get_or places j 0 ≡ k)). let jn = f.1 in let apart : f.0 ≢ n = omega arith in inr (f.0, omega arith, get_or-set_other places n f.0 i 0 apart ∙ f.2))
      (is.listed k (let v = length-set values i (Some b) in omega arith)))
      (cases_eq k i);
}
  where
    here : (j : ℕ) → j ≡ n → get_or (set places n i) j 0 ≡ i
    here j e =
        let room = is.room in
        let count = is.count in
        let below = count_below values i short open' in
        ap (λ (m : ℕ). get_or (set places n i) m 0) e ∙ get_or-set_same places n i 0 (omega arith)

-- room for more places changes nothing
pub tracked_with_room : (values : Values) (old new : List ℕ) (n : ℕ) → IsTracked values old n →
    length old ≤ length new → ((j : ℕ) → j < length old → get_or new j 0 ≡ get_or old j 0) → IsTracked values new n
tracked_with_room values old new n is longer kept = record {
  room = let room = is.room in omega arith;
  count = is.count;
  within = λ j less. let same = kept j (listed j less) in let w = is.within j less in omega arith;
  listed = λ k less. ⊎_elim
      (λ (o : get_or values k None ≡ None). inl o)
      (λ (f : (j : ℕ) × (j < n) × (get_or old j 0 ≡ k)). inr (f.0, f.1, kept f.0 (listed f.0 f.1) ∙ f.2))
      (is.listed k less);
}
  where
    listed : (j : ℕ) → j < n → j < length old
    listed j less =
        let room = is.room in let count = is.count in let most = count_by-le-length is_some values in omega arith

-- nor do more values that are open
pub tracked_longer : (values : Values) (places : List ℕ) (n more : ℕ) → IsTracked values places n →
    length values + more ≤ length places → IsTracked (values ++ replicate more None) places n
tracked_longer values places n more is room = record {
  room = omega (arith, length-append values (replicate more None), length-replicate {A = Option Bool} more None);
  count = let own = is.count in
      let both = sum_by-append (λ x. cond (is_some x) 1 0) values (replicate more None) in
      let none = sum_by_zero (λ x. cond (is_some x) 1 0) (replicate more None) (λ k d short. ap (λ (x : Option Bool). cond (is_some x) 1 0) (get_or-replicate more k None d (omega (arith, short, length-replicate {A = Option Bool} more None)))) in
      omega arith;
  within = λ j less. let w = is.within j less in omega (arith, length-append values (replicate more None));
  listed = λ k less. ⊎_elim
      (λ (short : k < length values). ⊎_elim
      (λ (o : get_or values k None ≡ None). inl (get_or_append_left values (replicate more None) None k short ∙ o))
      (λ (f : (j : ℕ) × (j < n) × (get_or places j 0 ≡ k)). inr f) (is.listed k short))
      (λ (long : length values ≤ k). inl (open_after k long)) (cases_lt k (length values));
}
  where
    open_in : (m j : ℕ) → get_or {A = Option Bool} (replicate m None) j None ≡ None
    open_in m j = ⊎_elim (λ (short : j < m). get_or-replicate m j None None short)
        (λ (long : m ≤ j). get_or-eq_default (replicate m None) None (omega (arith, length-replicate {A = Option Bool} m None))) (cases_lt j m)

    open_after : (k : ℕ) → length values ≤ k → get_or (values ++ replicate more None) k None ≡ None
    open_after k long = get_or-append_right values (replicate more None) (length values) k None refl long ∙ open_in more (k - length values)

-- an open literal's variable has no value
pub none_under : (f : Bool → Bool) (o : Option Bool) → option_map f o ≡ None → o ≡ None
none_under f None e = refl
none_under f (Some b) e = cc

-- ---- clearing

-- what is still set is listed from `at` on
pub record IsClearing (values : Values) (places : List ℕ) (n at len : ℕ) : Type 0 where
  pub long : length values ≡ len
  pub room : length values ≤ length places
  pub fits : n ≤ length places
  pub within : (j : ℕ) → j < n → get_or places j 0 < length values
  pub listed : (k : ℕ) → k < length values → (get_or values k None ≡ None) ⊎ ((j : ℕ) × (at ≤ j) × (j < n) × (get_or places j 0 ≡ k))

pub cleared : (values : Values) (places : List ℕ) (n at len : ℕ) → IsClearing values places n at len → n ≤ at → values ≡ replicate len None
cleared values places n at len is done = same_lists values (replicate len None) (is.long ∙ sym (length-replicate len None)) (λ k d short.
    let long = is.long in
    get_or_default values k d None short ∙ ⊎_elim
    (λ (o : get_or values k None ≡ None). o)
    (λ (f : (j : ℕ) × (at ≤ j) × (j < n) × (get_or places j 0 ≡ k)). let a = f.1 in let b = f.2 in absurd (omega arith))
    (is.listed k short)
    ∙ sym (get_or-replicate len k None d (omega arith)))
