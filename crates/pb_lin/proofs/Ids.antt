-- Ids in rising order, and those that a table lists.
use Rattle.std.proofs.Common.{◌≡◌, ◌≢◌, ◌⊎◌, ℕ, ◌+◌, ◌-◌, ◌<◌, ◌≤◌, Bool, true, false, cond, ◌||◌, List, [], ◌∷◌, length, get_or, take, drop, filter, refl, arith, ap, sym, subst, ◌∙◌, ⊎_elim, inl, inr, Option, Some, None}
use Rattle.std.specs.Prelude.{nat_eq, IsSome}
use Rattle.std.specs.Option.{is_some}
use Rattle.std.specs.List.{All, list_any, insert}
use Rattle.std.specs.List.Sorted.{IsPartitionPoint}
use Rattle.std.proofs.lemmas.Bool.{cases_lt, cases_order, eqb-true, eq-eqb, leb-true, leb-false}
use Rattle.std.proofs.Common.{leb}
use Rattle.std.proofs.lemmas.List.{take-append-drop, get_or_default}
use Rattle.std.proofs.lemmas.List.Edits.{length-insert, get_or-insert_below, get_or-insert_at, get_or-insert_above}
use Rattle.std.proofs.lemmas.List.Folds.{list_any-append, Any-from_list_any}
use Rattle.std.proofs.lemmas.List.Kept.{AllPairs-filter}
use Rattle.pb_lin.specs.Place.{IsPlace}
use Rattle.pb_lin.specs.LineMap.{IsNextAbove, NoneAbove}
use Rattle.pb_lin.specs.IdList.{IsRising, IsListed, ListsIds}

-- from the test that the number isn't above
pub IsPlace-from_last : (ids : List ℕ) (id i : ℕ) → i ≤ length ids → IsPartitionPoint (λ y. leb y id ≡ true) (λ y. leb y id ≡ false) ids i → IsPlace (λ k. k) ids (id + 1) i
IsPlace-from_last ids id i bound point = record {
  bound = bound;
  below = λ k d h. let le = leb-true _ _ (point.0 k d (omega arith) h) in omega arith;
  above = λ k d h short. let lt = leb-false _ _ (point.1 k d h short) in omega arith;
}

-- ---- an id put in its place

pub rising-insert : (ids : List ℕ) (id i : ℕ) → IsRising ids → IsPlace (λ k. k) ids id i → All (λ k. k ≢ id) ids → IsRising (insert ids i id)
rising-insert ids id i rising place apart j k d less short = ⊎_elim (λ (e : k ≡ i). at e) (λ (o : (k < i) ⊎ (i < k)). ⊎_elim before after o) (cases_order k i)
  where
    long : length (insert ids i id) ≡ length ids + 1
    long = length-insert ids i id place.bound

    below : (m : ℕ) → m < i → get_or (insert ids i id) m d ≡ get_or ids m d
    below m h = get_or-insert_below ids i id d m h place.bound

    here : (m : ℕ) → m ≡ i → get_or (insert ids i id) m d ≡ id
    here m e = ap (λ (n : ℕ). get_or (insert ids i id) n d) e ∙ get_or-insert_at ids i id d place.bound

    above : (m : ℕ) → i < m → get_or (insert ids i id) m d ≡ get_or ids (m - 1) d
    above m h = ap (λ (n : ℕ). get_or (insert ids i id) n d) (omega arith) ∙ get_or-insert_above ids i id d (m - 1) (omega arith) place.bound

    at : k ≡ i → get_or (insert ids i id) j d < get_or (insert ids i id) k d
    at e =
        let lower = place.below j d (omega arith) in
        let one = below j (omega arith) in
        let other = here k e in
        omega arith

    before : k < i → get_or (insert ids i id) j d < get_or (insert ids i id) k d
    before h =
        let bound = place.bound in
        let up = rising j k d less (omega arith) in
        let one = below j (omega arith) in
        let other = below k h in
        omega arith

    after : i < k → get_or (insert ids i id) j d < get_or (insert ids i id) k d
    after h = ⊎_elim
        (λ (e : j ≡ i).
        let one = here j e in
        let other = above k h in
        let least = place.above (k - 1) d (omega arith) (omega (arith, long)) in
        let differs = apart (k - 1) d (omega (arith, long)) in
        omega arith)
        (λ (o : (j < i) ⊎ (i < j)). ⊎_elim
        (λ (l : j < i).
        let one = below j l in
        let other = above k h in
        let up = rising j (k - 1) d (omega arith) (omega (arith, long)) in
        omega arith)
        (λ (m : i < j).
        let one = above j m in
        let other = above k h in
        let up = rising (j - 1) (k - 1) d (omega arith) (omega (arith, long)) in
        omega arith) o)
        (cases_order j i)

any_among : (x y z : Bool) → (x || z) ≡ true → (x || (y || z)) ≡ true
any_among true y z e = refl
any_among false true z e = refl
any_among false false z e = e

any_at : (x y z : Bool) → y ≡ true → (x || (y || z)) ≡ true
any_at true y z e = refl
any_at false true z e = refl
any_at false false z e = cc

pub listed-insert : (ids : List ℕ) (id i k : ℕ) → IsListed ids k → IsListed (insert ids i id) k
listed-insert ids id i k listed =
    let parts : list_any (nat_eq k) ids ≡ (list_any (nat_eq k) (take i ids) || list_any (nat_eq k) (drop i ids))
    = ap (list_any (nat_eq k)) (sym (take-append-drop i ids)) ∙ list_any-append (nat_eq k) (take i ids) (drop i ids) in
    list_any-append (nat_eq k) (take i ids) (id ∷ drop i ids)
    ∙ any_among (list_any (nat_eq k) (take i ids)) (nat_eq k id) (list_any (nat_eq k) (drop i ids)) (sym parts ∙ listed)

pub listed_itself : (ids : List ℕ) (id i : ℕ) → IsListed (insert ids i id) id
listed_itself ids id i =
    list_any-append (nat_eq id) (take i ids) (id ∷ drop i ids)
    ∙ any_at (list_any (nat_eq id) (take i ids)) (nat_eq id id) (list_any (nat_eq id) (drop i ids)) (eq-eqb id id refl)

-- ---- ids that pass a test

listed-filter : (test : ℕ → Bool) (ids : List ℕ) (k : ℕ) → test k ≡ true → IsListed ids k → IsListed (filter test ids) k
listed-filter test [] k passes listed = listed
listed-filter test (x ∷ ids) k passes listed = by (nat_eq k x) refl (test x) refl listed (listed-filter test ids k passes)
  where
    by : (same : Bool) → nat_eq k x ≡ same → (kept : Bool) → test x ≡ kept → (same || list_any (nat_eq k) ids) ≡ true → (IsListed ids k → IsListed (filter test ids) k) → list_any (nat_eq k) (cond kept (x ∷ filter test ids) (filter test ids)) ≡ true
    by true e true t h rest = ap (λ (b : Bool). b || list_any (nat_eq k) (filter test ids)) e
    by true e false t h rest = let is : k ≡ x = eqb-true k x e in let p : test x ≡ true = ap test (sym is) ∙ passes in cc
    by false e true t h rest = ap (λ (b : Bool). b || list_any (nat_eq k) (filter test ids)) e ∙ rest h
    by false e false t h rest = rest h

pub lists-filter : (held : ℕ → Option ℕ) (ids kept : List ℕ) → ListsIds held ids → kept ≡ filter (λ k. is_some (held k)) ids → ListsIds held kept
lists-filter held ids kept lists is = subst (ListsIds held) (sym is) (record {
  rising = AllPairs-filter (λ i j. i < j) (λ k. is_some (held k)) ids lists.rising;
  listed = λ k some. listed-filter (λ k. is_some (held k)) ids k some (lists.listed k some);
})

-- ---- the next id

none_or_some : {X : Type 0} (o : Option X) → (o ≡ None) ⊎ IsSome o
none_or_some None = inl refl
none_or_some (Some x) = inr refl

-- the place of an id at which something is held
place_of_live : (held : ℕ → Option ℕ) (ids : List ℕ) (k : ℕ) → ListsIds held ids → IsSome (held k) → (j : ℕ) × (d : ℕ) × (j < length ids) × (get_or ids j d ≡ k)
place_of_live held ids k lists some =
    let found = Any-from_list_any (nat_eq k) ids (lists.listed k some) in
    (found.0, found.1, found.2, found.3 ∙ sym (eqb-true k found.1 found.4))

-- places from `first` to `at` have ids at which nothing is held
abbrev pub Skipped : (ℕ → Option ℕ) → List ℕ → ℕ → ℕ → Type 0
Skipped held ids first at = (j d : ℕ) → first ≤ j → j < at → held (get_or ids j d) ≡ None

-- an id above `id` stands at `at` or after it, if something is held there
after_skipped : (held : ℕ → Option ℕ) (ids : List ℕ) (id first at k : ℕ) → ListsIds held ids → IsPlace (λ i. i) ids (id + 1) first → Skipped held ids first at → id < k → ((j d : ℕ) → at ≤ j → j < length ids → get_or ids j d ≡ k → ⊥) → held k ≡ None
after_skipped held ids id first at k lists place skipped above later = ⊎_elim (λ (none : held k ≡ None). none) (λ some.
    let p = place_of_live held ids k lists some in
    ⊎_elim (λ (h : p.0 < first). let low = place.below p.0 p.1 h in let is = p.3 in absurd (omega arith))
    (λ (h : first ≤ p.0). ⊎_elim
    (λ (l : p.0 < at). ap held (sym p.3) ∙ skipped p.0 p.1 h l)
    (λ (m : at ≤ p.0). absurd (later p.0 p.1 m p.2 p.3)) (cases_lt p.0 at))
    (cases_lt p.0 first))
    (none_or_some (held k))

pub next_found : (held : ℕ → Option ℕ) (ids : List ℕ) (id first at next : ℕ) → ListsIds held ids → IsPlace (λ i. i) ids (id + 1) first → Skipped held ids first at → first ≤ at → at < length ids → next ≡ get_or ids at 0 → IsSome (held next) → IsNextAbove held id next
next_found held ids id first at next lists place skipped from short is live = record {
  above = let least = place.above at 0 from short in omega arith;
  live = live;
  least = λ k above below. after_skipped held ids id first at k lists place skipped above (λ j d from' short' e.
      let same : get_or ids j d ≡ get_or ids j 0 = get_or_default ids j d 0 short' in
      ⊎_elim (λ (h : at < j). let up = lists.rising at j 0 h short' in omega arith)
      (λ (h : j ≤ at). let here : j ≡ at = omega arith in let there = ap (λ (n : ℕ). get_or ids n 0) here in omega arith)
      (cases_lt at j));
}

pub none_above : (held : ℕ → Option ℕ) (ids : List ℕ) (id first at : ℕ) → ListsIds held ids → IsPlace (λ i. i) ids (id + 1) first → Skipped held ids first at → length ids ≤ at → NoneAbove held id
none_above held ids id first at lists place skipped past k above =
    after_skipped held ids id first at k lists place skipped above (λ j d from short e. absurd (omega arith))
