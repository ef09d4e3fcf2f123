-- The distinct literals of a clause, and the row that they make.
use Rattle.std.proofs.Common.{◌≡◌, ◌≢◌, inl, inr, ◌↔◌, ℕ, suc, ◌+◌, ◌^◌, ◌<◌, ◌≤◌, Bool, true, false, not, List, [], ◌∷◌, ◌++◌, length, get_or, refl, sym, ap, ap₂, ◌∙◌, subst, Some, arith}
use Rattle.std.specs.Prelude.{◌||◌, ◌&&◌, ◌==◌, MatchBool, All, AllPairs, Contains, slice_get}
use Rattle.std.specs.List.{list_all}
use Rattle.std.specs.List.Sorted.{IsPermutation}
use Rattle.std.proofs.Math.Bool.{beq}
use Rattle.std.proofs.lemmas.Bool.{cases_lt, and_from, eq-eqb, ne_eqb, or_from, cond-true, cond-false, false_from_ne_true}
use Rattle.std.proofs.lemmas.Option.{slice_get_within, get_or_from_slice_get}
use Rattle.std.proofs.lemmas.List.Elements.{All-map, All-contains, All-weaker, All-contains_itself, Contains-push, Contains-push_cases, Contains-append_left}
use Rattle.std.proofs.lemmas.List.Quantifiers.{all_pairs_push}
use Rattle.std.proofs.lemmas.List.Sorted.{Contains-permutation, IsPermutation-sym}
use Rattle.scut_base.proofs.Lists.{Contains-nil, Contains-head, Contains-cons, Contains-cons_cases}
use Rattle.scut_base.specs.Literal.{Literal, is_same}
use Rattle.instance.specs.declared.objective.Soft.{Soft}
use Rattle.instance.specs.Shape.{ClauseUpTo}
use Rattle.pb_lin.specs.Constraint.{ConstraintValue, UpTo, opposite, ones, size}
use Rattle.pb_lin.specs.Restriction.{is_among}
use Rattle.pb_lin.proofs.Covers.{is_same-true, same_literal}
use Rattle.pb_lin.proofs.Ones.{total_ones, AreOnes-ones}
use Rattle.instance_normal.specs.NormalForm.{Clause, AreDistinct, IsClauseRow, SaysWhat, is_tautology, trivial_row, clause_payment, payment, Never, Always, Where, Relaxed, positive}
use Rattle.instance_normal.specs.Fitting.{Fits}
use Rattle.instance_normal.proofs.Members.{one_passes, any_from_member, test_from_all, all_from_test}

-- ---- members

pub member_at : {X : Type 0} (xs : List X) (k : ℕ) (x : X) → slice_get xs k ≡ Some x → Contains xs x
member_at xs k x at = (k, slice_get_within xs k x at, get_or_from_slice_get xs k x x at)

-- a member that is put at the end again changes no membership
pub put_again : {X : Type 0} (xs : List X) (x : X) → Contains xs x → (y : X) → Contains xs y ↔ Contains (xs ++ x ∷ []) y
put_again xs x there y = (Contains-append_left xs (x ∷ []) y, back)
  where
    back : Contains (xs ++ x ∷ []) y → Contains xs y
    back has = elim (Contains-push_cases xs x y has) [ inl old ↦ old | inr same ↦ subst (Contains xs) same there ]

-- lists of the same members, with the same element more
pub put_both : {X : Type 0} (xs ys : List X) (x : X) → ((z : X) → Contains xs z ↔ Contains ys z) → (z : X) → Contains (xs ++ x ∷ []) z ↔ Contains (ys ++ x ∷ []) z
put_both {X} xs ys x same z = (one xs ys (λ w. (same w).0), one ys xs (λ w. (same w).1))
  where
    one : (us vs : List X) → ((w : X) → Contains us w → Contains vs w) → Contains (us ++ x ∷ []) z → Contains (vs ++ x ∷ []) z
    one us vs within has = elim (Contains-push_cases us x z has) [
      | inl old ↦ Contains-append_left vs (x ∷ []) z (within z old)
      | inr is ↦ subst (Contains (vs ++ x ∷ [])) is (Contains-push vs x)
    ]

-- ---- literals of one variable

same_sign : (x y : Bool) → not (beq x y) ≡ false → x ≡ y
same_sign true true e = refl
same_sign true false e = cc
same_sign false true e = cc
same_sign false false e = refl

other_sign : (x y : Bool) → not (beq x y) ≡ true → x ≡ not y
other_sign true true e = cc
other_sign true false e = refl
other_sign false true e = refl
other_sign false false e = cc

-- a literal is its variable and its sign
pub literal : (l m : Literal) → l.var ≡ m.var → l.neg ≡ m.neg → l ≡ m
literal l m var neg = ap₂ (λ (v : ℕ) (n : Bool). let r : Literal = record { var = v; neg = n } in r) var neg

pub is_same_literal : (l m : Literal) → l.var ≡ m.var → not (beq l.neg m.neg) ≡ false → l ≡ m
is_same_literal l m var sign = literal l m var (same_sign l.neg m.neg sign)

pub is_opposite_literal : (l m : Literal) → l.var ≡ m.var → not (beq l.neg m.neg) ≡ true → l ≡ opposite m
is_opposite_literal l m var sign = literal l (opposite m) var (other_sign l.neg m.neg sign)

pub is_positive : (l : Literal) (var : ℕ) → l.var ≡ var → l.neg ≡ false → l ≡ positive var
is_positive l var at sign = literal l (positive var) at sign

-- ---- opposite literals in a clause

pub tautology_from : (lits : List Literal) (l : Literal) → Contains lits l → Contains lits (opposite l) → is_tautology lits ≡ true
tautology_from lits l here there = any_from_member (λ k. is_among lits (opposite k)) lits l here (any_from_member (λ k. k.var == l.var && beq k.neg (not l.neg)) lits (opposite l) there (and_from (l.var == l.var) (beq (not l.neg) (not l.neg)) (eq-eqb l.var l.var refl) (itself (not l.neg))))
  where
    itself : (b : Bool) → beq b b ≡ true
    itself true = refl
    itself false = refl

pub first_below : (x : Literal) (xs : List Literal) → AllPairs (λ l m. l.var < m.var) (x ∷ xs) → All (λ m. x.var < m.var) xs
first_below x xs up = λ k d short. up 0 (suc k) d (omega arith) (omega arith)

pub rest_rising : (x : Literal) (xs : List Literal) → AllPairs (λ l m. l.var < m.var) (x ∷ xs) → AllPairs (λ l m. l.var < m.var) xs
rest_rising x xs up = λ i j d less short. up (suc i) (suc j) d (omega arith) (omega arith)

-- literals of rising variables are told apart by them
apart : (ls : List Literal) (l m : Literal) → AllPairs (λ x y. x.var < y.var) ls → Contains ls l → Contains ls m → l.var ≡ m.var → l ≡ m
apart [] l m up l_in m_in same = absurd (Contains-nil l l_in)
apart (x ∷ ls) l m up l_in m_in same = elim (Contains-cons_cases x l ls l_in) [
  | inl l_first ↦ elim (Contains-cons_cases x m ls m_in) [
    | inl m_first ↦ sym l_first ∙ m_first
    | inr m_later ↦ (
        let below : x.var < m.var = All-contains (λ (y : Literal). x.var < y.var) ls m (first_below x ls up) m_later in
        let here : x.var ≡ l.var = ap (λ (y : Literal). y.var) l_first in
        absurd (omega arith))
  ]
  | inr l_later ↦ elim (Contains-cons_cases x m ls m_in) [
    | inl m_first ↦ (
        let below : x.var < l.var = All-contains (λ (y : Literal). x.var < y.var) ls l (first_below x ls up) l_later in
        let here : x.var ≡ m.var = ap (λ (y : Literal). y.var) m_first in
        absurd (omega arith))
    | inr m_later ↦ apart ls l m (rest_rising x ls up) l_later m_later same
  ]
]

unlike : (b : Bool) → b ≡ not b → ⊥
unlike true e = cc
unlike false e = cc

-- a clause whose distinct literals have rising variables has no opposite ones
pub plain_from_distinct : (lits distinct : List Literal) → AreDistinct lits distinct → is_tautology lits ≡ false
plain_from_distinct lits distinct are = false_from_ne_true (is_tautology lits) (λ test.
    let found = one_passes (λ l. is_among lits (opposite l)) lits test in
    let other = one_passes (λ m. m.var == found.0.var && beq m.neg (not found.0.neg)) lits found.2 in
    let same : other.0 ≡ opposite found.0 = is_same-true other.0 (opposite found.0) other.2 in
    let there : Contains lits (opposite found.0) = subst (Contains lits) same other.1 in
    let equal : found.0 ≡ opposite found.0 = apart distinct found.0 (opposite found.0) are.rising ((are.same found.0).1 found.1) ((are.same (opposite found.0)).1 there) refl in
    unlike found.0.neg (ap (λ (l : Literal). l.neg) equal))

-- ---- the row

pub clause_says : (lits distinct : List Literal) (c : ConstraintValue) → AreDistinct lits distinct → c ≡ record { terms = ones distinct; degree = 1 } → SaysWhat (Clause lits) c
clause_says lits distinct c are row = by (is_tautology lits) (plain_from_distinct lits distinct are)
  where
    by : (b : Bool) → b ≡ false → MatchBool b (c ≡ trivial_row) (IsClauseRow lits c)
    by true e = cc
    by false e = record { distinct = distinct; literals = are; row = row }

pub clause_fits : (n : ℕ) (distinct : List Literal) (c : ConstraintValue) → c ≡ record { terms = ones distinct; degree = 1 } → length c.terms < 2 ^ 64 → ClauseUpTo n distinct → Fits n c
clause_fits n distinct c row short upto = record {
  upto = subst (UpTo n) (sym row) (All-map (λ (t : Literal × ℕ). t.0.var ≤ n) (λ (l : Literal). (l, 1)) distinct upto);
  small = omega (arith, ap size row, total_ones (ones distinct) (AreOnes-ones distinct), ap (λ (x : ConstraintValue). length x.terms) row);
}

pub members_upto : (n : ℕ) (lits distinct : List Literal) → AreDistinct lits distinct → ClauseUpTo n lits → ClauseUpTo n distinct
members_upto n lits distinct are upto = All-weaker (Contains distinct) (λ (l : Literal). l.var ≤ n) (λ l there. All-contains (λ (m : Literal). m.var ≤ n) lits l upto ((are.same l).0 there)) distinct (All-contains_itself distinct)

-- ---- distinct literals in another order

pub distinct_permuted : (lits sorted distinct : List Literal) → IsPermutation lits sorted → AreDistinct sorted distinct → AreDistinct lits distinct
distinct_permuted lits sorted distinct moved are = record {
  rising = are.rising;
  same = λ l. (
    (λ there. Contains-permutation sorted lits l (IsPermutation-sym lits sorted moved) ((are.same l).0 there)),
    (λ there. (are.same l).1 (Contains-permutation lits sorted l moved there)),
  );
}

pub tautology_permuted : (lits sorted : List Literal) → IsPermutation lits sorted → is_tautology sorted ≡ true → is_tautology lits ≡ true
tautology_permuted lits sorted moved test =
    let found = one_passes (λ l. is_among sorted (opposite l)) sorted test in
    let other = one_passes (λ m. m.var == found.0.var && beq m.neg (not found.0.neg)) sorted found.2 in
    let same : other.0 ≡ opposite found.0 = is_same-true other.0 (opposite found.0) other.2 in
    let back = IsPermutation-sym lits sorted moved in
    tautology_from lits found.0 (Contains-permutation sorted lits found.0 back found.1) (Contains-permutation sorted lits (opposite found.0) back (subst (Contains sorted) same other.1))

-- one more, of a greater variable
pub rising_push : (ls : List Literal) (l : Literal) → AllPairs (λ x y. x.var < y.var) ls → All (λ m. m.var < l.var) ls → AllPairs (λ x y. x.var < y.var) (ls ++ l ∷ [])
rising_push ls l up below = all_pairs_push (λ (x y : Literal). x.var < y.var) ls l up below

-- the last of rising ones is not below any
pub upto_last : (ls : List Literal) (n k : ℕ) (l : Literal) → AllPairs (λ x y. x.var < y.var) ls → k + 1 ≡ length ls → slice_get ls k ≡ Some l → l.var < n → All (λ m. m.var < n) ls
upto_last ls n k l up last at less = λ j d short. elim (cases_lt j k) [
  | inl before ↦ (
      let here : get_or ls k d ≡ l = get_or_from_slice_get ls k l d at in
      let under = up j k d before (omega arith) in
      let is = ap (λ (y : Literal). y.var) here in
      omega arith)
  | inr after ↦ (
      let same : j ≡ k = omega arith in
      let here : get_or ls j d ≡ l = ap (λ (i : ℕ). get_or ls i d) same ∙ get_or_from_slice_get ls k l d at in
      let is = ap (λ (y : Literal). y.var) here in
      omega arith)
]

-- ---- payments

pub payment_of_clause : (s : Soft) → s.weight ≢ 0 → is_tautology s.lits ≡ false → payment s ≡ clause_payment s.lits
payment_of_clause s some plain = cond-false (s.weight == 0 || is_tautology s.lits) Never (clause_payment s.lits) (or_from (s.weight == 0) (is_tautology s.lits) (ne_eqb s.weight 0 some) plain)

pub empty_payment : (lits distinct : List Literal) → AreDistinct lits distinct → distinct ≡ [] → clause_payment lits ≡ Always
empty_payment [] distinct are none = refl
empty_payment (l ∷ lits) distinct are none = absurd (Contains-nil l (subst (λ (ds : List Literal). Contains ds l) none ((are.same l).1 (Contains-head l lits))))

single_is : (ls : List Literal) (l m : Literal) → length ls ≡ 1 → slice_get ls 0 ≡ Some l → Contains ls m → m ≡ l
single_is ls l m one at (k, below, is) =
    let first : k ≡ 0 = omega arith in
    sym is ∙ ap (λ (i : ℕ). get_or ls i m) first ∙ get_or_from_slice_get ls 0 l m at

pub unit_payment : (lits distinct : List Literal) (l : Literal) → AreDistinct lits distinct → length distinct ≡ 1 → slice_get distinct 0 ≡ Some l → clause_payment lits ≡ Where (opposite l)
unit_payment [] distinct l are one at = absurd (Contains-nil l ((are.same l).0 (member_at distinct 0 l at)))
unit_payment (m ∷ lits) distinct l are one at =
    let first : m ≡ l = single_is distinct l m one at ((are.same m).1 (Contains-head m lits)) in
    let test : list_all (is_same m) lits ≡ true = test_from_all (is_same m) lits (All-weaker (Contains lits) (λ (x : Literal). is_same m x ≡ true) (λ x there. same_literal m x (first ∙ sym (single_is distinct l x one at ((are.same x).1 (Contains-cons m x lits there))))) lits (All-contains_itself lits)) in
    cond-true (list_all (is_same m) lits) (Where (opposite m)) Relaxed test ∙ ap (λ (x : Literal). Where (opposite x)) first

pub relaxed_payment : (lits distinct : List Literal) → AreDistinct lits distinct → distinct ≢ [] → length distinct ≢ 1 → clause_payment lits ≡ Relaxed
relaxed_payment [] distinct are some more = absurd (some (nothing distinct (λ l there. Contains-nil l ((are.same l).0 there))))
  where
    nothing : (ls : List Literal) → ((l : Literal) → Contains ls l → ⊥) → ls ≡ []
    nothing [] none = refl
    nothing (l ∷ ls) none = absurd (none l (Contains-head l ls))
relaxed_payment (m ∷ lits) distinct are some more = cond-false (list_all (is_same m) lits) (Where (opposite m)) Relaxed (false_from_ne_true (list_all (is_same m) lits) (λ test. all_same test distinct are.rising (λ l there. (are.same l).0 there) some more))
  where
    is_m : list_all (is_same m) lits ≡ true → (l : Literal) → Contains (m ∷ lits) l → m ≡ l
    is_m test l there = elim (Contains-cons_cases m l lits there) [
      | inl first ↦ first
      | inr later ↦ is_same-true m l (All-contains (λ (x : Literal). is_same m x ≡ true) lits l (all_from_test (is_same m) lits test) later)
    ]

    all_same : list_all (is_same m) lits ≡ true → (ls : List Literal) → AllPairs (λ x y. x.var < y.var) ls → ((l : Literal) → Contains ls l → Contains (m ∷ lits) l) → ls ≢ [] → length ls ≢ 1 → ⊥
    all_same test [] up within some' more' = some' refl
    all_same test (x ∷ []) up within some' more' = more' refl
    all_same test (x ∷ y ∷ ls) up within some' more' =
        let equal : x ≡ y = sym (is_m test x (within x (Contains-head x (y ∷ ls)))) ∙ is_m test y (within y (Contains-cons x y (y ∷ ls) (Contains-head y ls))) in
        let less : x.var < y.var = up 0 1 x (omega arith) (omega arith) in
        let same : x.var ≡ y.var = ap (λ (l : Literal). l.var) equal in
        omega arith
