-- The walk over the live lines by rising ids.
use Rattle.std.proofs.Common.{◌≡◌, ◌⊎◌, ℕ, ◌<◌, ◌≤◌, ◌&&◌, Bool, true, false, cond, Option, Some, None, List, [], ◌∷◌, ◌++◌, refl, arith, ap, sym, ◌∙◌, ⊎_elim}
use Rattle.std.proofs.Math.Dec.{T}
use Rattle.std.specs.Prelude.{IsSome, nat_lt, option_map, option_to_list}
use Rattle.std.specs.declared.cmp.Ordering.{Ordering}
use Rattle.std.specs.declared.cmp.Ordering.TheVariants.{Less, Equal, Greater}
use Rattle.std.specs.Ordering.{MatchOrdering, nat_cmp, eq_by_cmp, is_lt}
use Rattle.std.specs.Cmp.{nat_cmp_total, unsigned_tied, ranked}
use Rattle.std.specs.FinMap.{get, entries, entries_sorted, get-entries, find, is_sorted, nat_cmp-IsAntisymmetric}
use Rattle.std.specs.FinMap.Entries.{below_all, find-where_key, is_sorted-where_key, same_entries}
use Rattle.std.proofs.lemmas.Bool.{cases_lt, cases_order, cond-true, cond-false, eq-eqb, ne_eqb, lt-ltb, le-ltb}
use Rattle.pb_lin.specs.Constraint.{ConstraintValue}
use Rattle.pb_lin.specs.LineMap.{LineMap, IsNextAbove, NoneAbove}
use Rattle.proof_rules.specs.Verdict.{above, line_at}

both_tests : (x y : Bool) → T x → T y → T (x && y)
both_tests true y first second = second
both_tests false y first second = first

less_test : (o : Ordering) (x y : ℕ) → MatchOrdering o (x < y) (x ≡ y) (y < x) → x < y → T (is_lt o)
less_test Less x y is less = tt
less_test Equal x y is less = absurd (omega arith)
less_test Greater x y is less = absurd (omega arith)

below_above : (id : ℕ) (es : List (ℕ × ConstraintValue)) → T (below_all nat_cmp id (above id es))
below_above id [] = tt
below_above id (e ∷ es) = by (nat_lt id e.0) refl (below_above id es)
  where
    by : (b : Bool) → nat_lt id e.0 ≡ b → T (below_all nat_cmp id (above id es)) → T (below_all nat_cmp id (cond b (e ∷ above id es) (above id es)))
    by true is rest = both_tests (is_lt (nat_cmp id e.0)) (below_all nat_cmp id (above id es)) (less_test (nat_cmp id e.0) id e.0 (ranked id e.0 (nat_cmp id e.0) refl) (⊎_elim
        (λ (less : id < e.0). less)
        (λ (more : e.0 ≤ id). absurd (let off = le-ltb id e.0 more in cc))
        (cases_lt id e.0))) rest
    by false is rest = rest

module _ (lines : LineMap) where
  sorted_above : (id : ℕ) → T (is_sorted nat_cmp (above id (entries lines)))
  sorted_above id = is_sorted-where_key nat_cmp (nat_lt id) (entries lines) (entries_sorted lines)

  find_above : (id q : ℕ) → find nat_cmp q (above id (entries lines)) ≡ cond (nat_lt id q) (get lines q) None
  find_above id q =
      find-where_key nat_cmp (nat_lt id) q (λ x tied. ap (nat_lt id) (sym (nat_cmp-IsAntisymmetric q x tied))) (entries lines)
      ∙ ap (λ (o : Option ConstraintValue). cond (nat_lt id q) o None) (sym (get-entries lines q))

  -- where the next one is found, it is the first of the higher ones
  found_next : (id next : ℕ) (c : ConstraintValue) → IsNextAbove (get lines) id next → get lines next ≡ Some c → (q : ℕ) →
      cond (nat_lt id q) (get lines q) None ≡ cond (eq_by_cmp nat_cmp q next) (Some c) (cond (nat_lt next q) (get lines q) None)
  found_next id next c is found q = ⊎_elim
      (λ (same : q ≡ next).
      cond-true (nat_lt id q) (get lines q) None (lt-ltb id q (let less = is.above in omega arith)) ∙ (ap (get lines) same ∙ found)
      ∙ sym (cond-true (eq_by_cmp nat_cmp q next) (Some c) (cond (nat_lt next q) (get lines q) None) (unsigned_tied q next ∙ eq-eqb q next same)))
      (λ (apart : (q < next) ⊎ (next < q)). ⊎_elim
      (λ (less : q < next).
      let right : cond (eq_by_cmp nat_cmp q next) (Some c) (cond (nat_lt next q) (get lines q) None) ≡ None = cond-false (eq_by_cmp nat_cmp q next) (Some c) (cond (nat_lt next q) (get lines q) None) (unsigned_tied q next ∙ ne_eqb q next (λ same. omega arith)) ∙ cond-false (nat_lt next q) (get lines q) None (le-ltb next q (omega arith)) in
      ⊎_elim
      (λ (over : id < q). cond-true (nat_lt id q) (get lines q) None (lt-ltb id q over) ∙ is.least q over less ∙ sym right)
      (λ (under : q ≤ id). cond-false (nat_lt id q) (get lines q) None (le-ltb id q under) ∙ sym right)
      (cases_lt id q))
      (λ (more : next < q).
      cond-true (nat_lt id q) (get lines q) None (lt-ltb id q (let less = is.above in omega arith))
      ∙ sym (cond-false (eq_by_cmp nat_cmp q next) (Some c) (cond (nat_lt next q) (get lines q) None) (unsigned_tied q next ∙ ne_eqb q next (λ same. omega arith)) ∙ cond-true (nat_lt next q) (get lines q) None (lt-ltb next q more)))
      apart)
      (cases_order q next)

  above_next : (id next : ℕ) (c : ConstraintValue) → IsNextAbove (get lines) id next → get lines next ≡ Some c → above id (entries lines) ≡ (next, c) ∷ above next (entries lines)
  above_next id next c is found =
      same_entries nat_cmp nat_cmp_total nat_cmp-IsAntisymmetric (above id (entries lines)) ((next, c) ∷ above next (entries lines)) (sorted_above id)
      (both_tests (below_all nat_cmp next (above next (entries lines))) (is_sorted nat_cmp (above next (entries lines))) (below_above next (entries lines)) (sorted_above next))
      (λ q. find_above id q ∙ found_next id next c is found q ∙ ap (λ (o : Option ConstraintValue). cond (eq_by_cmp nat_cmp q next) (Some c) o) (sym (find_above next q)))

  -- one step: the next line comes first among those of higher ids
  pub walk_next : (id next : ℕ) → IsNextAbove (get lines) id next → above id (entries lines) ≡ line_at lines next ++ above next (entries lines)
  walk_next id next is = by (get lines next) refl is.live
    where
      by : (held : Option ConstraintValue) → get lines next ≡ held → IsSome held → above id (entries lines) ≡ line_at lines next ++ above next (entries lines)
      by None e live = cc
      by (Some c) e live = above_next id next c is e ∙ ap (λ (o : Option ConstraintValue). option_to_list (option_map (λ (d : ConstraintValue). (next, d)) o) ++ above next (entries lines)) (sym e)

  -- the end: no line has a higher id
  pub walk_end : (id : ℕ) → NoneAbove (get lines) id → above id (entries lines) ≡ []
  walk_end id none = same_entries nat_cmp nat_cmp_total nat_cmp-IsAntisymmetric (above id (entries lines)) [] (sorted_above id) tt (λ q. find_above id q ∙ ⊎_elim
      (λ (over : id < q). cond-true (nat_lt id q) (get lines q) None (lt-ltb id q over) ∙ none q over)
      (λ (under : q ≤ id). cond-false (nat_lt id q) (get lines q) None (le-ltb id q under))
      (cases_lt id q))

  none_at : (q : ℕ) (held : Option ConstraintValue) → ((c : ConstraintValue) → held ≡ Some c → 0 < q) → q ≤ 0 → None ≡ held
  none_at q None positive low = refl
  none_at q (Some c) positive low = absurd (let more = positive c refl in omega arith)

  -- the start: all ids are above 0
  pub walk_start : ((id : ℕ) (c : ConstraintValue) → get lines id ≡ Some c → 0 < id) → above 0 (entries lines) ≡ entries lines
  walk_start positive = same_entries nat_cmp nat_cmp_total nat_cmp-IsAntisymmetric (above 0 (entries lines)) (entries lines) (sorted_above 0) (entries_sorted lines) (λ q. find_above 0 q ∙ ⊎_elim
      (λ (over : 0 < q). cond-true (nat_lt 0 q) (get lines q) None (lt-ltb 0 q over))
      (λ (low : q ≤ 0). cond-false (nat_lt 0 q) (get lines q) None (le-ltb 0 q low) ∙ none_at q (get lines q) (positive q) low)
      (cases_lt 0 q) ∙ get-entries lines q)
