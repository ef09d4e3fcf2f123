-- An entry of a map of lines is what its id finds.
use Rattle.std.proofs.Common.{◌≡◌, ℕ, ◌<◌, ◌&&◌, Bool, true, false, Some, List, [], ◌∷◌, refl, arith, ap, sym, ◌∙◌, ⊎_elim}
use Rattle.std.proofs.Math.Dec.{T}
use Rattle.std.specs.List.{All, Contains}
use Rattle.std.specs.declared.cmp.Ordering.{Ordering}
use Rattle.std.specs.declared.cmp.Ordering.TheVariants.{Less, Equal, Greater}
use Rattle.std.specs.Ordering.{MatchOrdering, nat_cmp, eq_by_cmp, is_lt}
use Rattle.std.specs.Cmp.{unsigned_tied, ranked}
use Rattle.std.specs.FinMap.{get, entries, entries_sorted, get-entries, find, is_sorted}
use Rattle.std.specs.FinMap.Entries.{below_all}
use Rattle.std.proofs.lemmas.Bool.{cond-true, cond-false, eq-eqb, ne_eqb}
use Rattle.std.proofs.lemmas.List.Elements.{All-nil, All-cons, All-contains}
use Rattle.scut_base.proofs.Lists.{Contains-nil, Contains-cons_cases}
use Rattle.pb_lin.specs.Constraint.{ConstraintValue}
use Rattle.pb_lin.specs.LineMap.{LineMap}

pub both_tests : (x y : Bool) → T (x && y) → T x × T y
both_tests true true test = (tt, tt)
both_tests true false test = absurd test
both_tests false y test = absurd test

pub less_from_test : (o : Ordering) (x y : ℕ) → MatchOrdering o (x < y) (x ≡ y) (y < x) → T (is_lt o) → x < y
less_from_test Less x y is test = is
less_from_test Equal x y is test = absurd test
less_from_test Greater x y is test = absurd test

pub ids_above : (id : ℕ) (es : List (ℕ × ConstraintValue)) → T (below_all nat_cmp id es) → All (λ e. id < e.0) es
ids_above id [] test = All-nil (λ e. id < e.0)
ids_above id (e ∷ es) test =
    let tests = both_tests (is_lt (nat_cmp id e.0)) (below_all nat_cmp id es) test in
    All-cons (λ f. id < f.0) e es (less_from_test (nat_cmp id e.0) id e.0 (ranked id e.0 (nat_cmp id e.0) refl) tests.0) (ids_above id es tests.1)

pub entry_found : (es : List (ℕ × ConstraintValue)) → T (is_sorted nat_cmp es) → (e : ℕ × ConstraintValue) → Contains es e → find nat_cmp e.0 es ≡ Some e.1
entry_found [] sorted e there = absurd (Contains-nil e there)
entry_found (f ∷ es) sorted e there = ⊎_elim
    (λ (first : f ≡ e). cond-true (eq_by_cmp nat_cmp e.0 f.0) (Some f.1) (find nat_cmp e.0 es) (unsigned_tied e.0 f.0 ∙ eq-eqb e.0 f.0 (sym (ap (λ (x : ℕ × ConstraintValue). x.0) first)))
    ∙ ap (λ (x : ℕ × ConstraintValue). Some x.1) first)
    (λ (later : Contains es e).
    let tests = both_tests (below_all nat_cmp f.0 es) (is_sorted nat_cmp es) sorted in
    let above : f.0 < e.0 = All-contains (λ g. f.0 < g.0) es e (ids_above f.0 es tests.0) later in
    cond-false (eq_by_cmp nat_cmp e.0 f.0) (Some f.1) (find nat_cmp e.0 es) (unsigned_tied e.0 f.0 ∙ ne_eqb e.0 f.0 (λ same. omega arith)) ∙ entry_found es tests.1 e later)
    (Contains-cons_cases f e es there)

-- what holds of each line that is found holds of each entry
pub entries_hold : (P : ConstraintValue → Type 0) (lines : LineMap) → ((id : ℕ) (c : ConstraintValue) → get lines id ≡ Some c → P c) → (e : ℕ × ConstraintValue) → Contains (entries lines) e → P e.1
entries_hold P lines found e there = found e.0 e.1 (get-entries lines e.0 ∙ entry_found (entries lines) (entries_sorted lines) e there)
