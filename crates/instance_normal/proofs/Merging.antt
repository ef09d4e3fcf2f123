-- Terms merged by variable: values, magnitudes and order.
use Rattle.std.proofs.Common.{◌≡◌, ◌≢◌, inl, inr, ℕ, zero, suc, ◌+◌, ◌-◌, ◌^◌, ◌<◌, ◌≤◌, Bool, true, false, not, cond, if◌then◌else◌, List, [], ◌∷◌, ◌++◌, length, map, take, set, get_or, sum_by, refl, sym, ap, ◌∙◌, subst, append-nil, ℤ, pos, ◌+ℤ◌, neg_ℤ, unsigned_abs, fold, arith}
use Rattle.std.specs.Prelude.{◌==◌, ◌&&◌, MatchBool, All, AllPairs, Contains}
use Rattle.std.specs.List.{list_any, range_with_len}
use Rattle.std.proofs.lemmas.Int.{ints}
use Rattle.std.proofs.lemmas.Bool.{cases_eq, eq-eqb, eqb-true, and_from, and_left, and_right, ne_eqb}
use Rattle.std.proofs.lemmas.List.{map-append, length-map, get_or-map}
use Rattle.std.proofs.lemmas.List.Elements.{All-nil, All-cons, All-head, All-tail, All-append, All-push, All-map, All-contains, All-weaker, All-contains_itself, Contains-get_or}
use Rattle.std.proofs.lemmas.List.Folds.{list_any_none}
use Rattle.std.proofs.lemmas.List.FromFn.{get_or-map-range_with_len}
use Rattle.std.proofs.lemmas.List.Quantifiers.{all_pairs_push}
use Rattle.std.proofs.lemmas.List.Sums.{sum_by-cons, sum_by_push, sum_by-append, fold_push}
use Rattle.scut_base.specs.Literal.{Literal}
use Rattle.scut_base.specs.Assignment.{value_of, lit_true}
use Rattle.scut_base.proofs.Lists.{Contains-nil, Contains-cons_cases, Contains-map as member_mapped}
use Rattle.instance.specs.Meaning.{int_sum_by}
use Rattle.pb_lin.specs.Constraint.{opposite, term_value, total, value}
use Rattle.pb_lin.specs.CostRow.{IsCostRow}
use Rattle.instance_normal.specs.NormalForm.{AreSomeOf, with_variable, first_seen, positive}
use Rattle.instance_normal.specs.Merging.{AreVariables, IsSignedTerm, StandForSums, variables, variable_value, sums_magnitude, sums_value}
use Rattle.instance_normal.proofs.Members.{any_from_member, all_unmapped}
use Rattle.instance_normal.proofs.Truth.{truth-opposite, int_sum-append}

-- ---- one positive term

one_term : (f : Literal × ℕ → ℕ) (t : Literal × ℕ) → sum_by f (t ∷ []) ≡ f t
one_term f t = (let sum = sum_by-cons f t [] in omega arith)

signed_term : (sum : ℕ × ℤ) (old new : List (Literal × ℕ)) (l : Literal) (n : ℕ) (constant : ℤ) → l.var ≡ sum.0 → 0 < n → n ≤ unsigned_abs sum.1 → unsigned_abs constant ≤ unsigned_abs sum.1 → new ≡ old ++ (l, n) ∷ [] → ((a : List Bool) → pos (if lit_true a l then n else 0) +ℤ constant ≡ variable_value a sum) → IsSignedTerm sum old new constant
signed_term sum old new l n constant own some small low row value = record {
  terms = (l, n) ∷ [];
  row = row;
  one = omega arith;
  own = All-cons (λ (t : Literal × ℕ). t.0.var ≡ sum.0) (l, n) [] own (All-nil (λ (t : Literal × ℕ). t.0.var ≡ sum.0));
  positive = All-cons (λ (t : Literal × ℕ). 0 < t.1) (l, n) [] some (All-nil (λ (t : Literal × ℕ). 0 < t.1));
  total = omega (arith, one_term (λ (t : Literal × ℕ). t.1) (l, n));
  low = low;
  value = λ a. ap (λ (m : ℕ). pos m +ℤ constant) (one_term (term_value a) (l, n)) ∙ value a;
}

pub positive_sum : (sum : ℕ × ℤ) (old new : List (Literal × ℕ)) (l : Literal) (n : ℕ) → l ≡ positive sum.0 → sum.1 ≡ pos n → 0 < n → new ≡ old ++ (l, n) ∷ [] → IsSignedTerm sum old new (pos 0)
positive_sum sum old new l n is amount some row = signed_term sum old new l n (pos 0) (ap (λ (k : Literal). k.var) is) some (omega (arith, ints, amount)) (omega (arith, ints)) row (λ a. ap (λ (k : Literal). pos (if lit_true a k then n else 0) +ℤ pos 0) is ∙ by (value_of a sum.0))
  where
    by : (b : Bool) → pos (if b then n else 0) +ℤ pos 0 ≡ (if b then sum.1 else pos 0)
    by true = omega (arith, ints, amount)
    by false = omega (arith, ints)

pub negative_sum : (sum : ℕ × ℤ) (old new : List (Literal × ℕ)) (l : Literal) (n : ℕ) (constant : ℤ) → l ≡ opposite (positive sum.0) → sum.1 ≡ neg_ℤ (pos n) → constant ≡ sum.1 → 0 < n → new ≡ old ++ (l, n) ∷ [] → IsSignedTerm sum old new constant
negative_sum sum old new l n constant is amount same some row = signed_term sum old new l n constant (ap (λ (k : Literal). k.var) is) some (omega (arith, ints, amount)) (omega (arith, ints, same)) row (λ a. ap (λ (k : Literal). pos (if lit_true a k then n else 0) +ℤ constant) is ∙ by (value_of a sum.0))
  where
    by : (b : Bool) → pos (if not b then n else 0) +ℤ constant ≡ (if b then sum.1 else pos 0)
    by true = omega (arith, ints, same)
    by false = omega (arith, ints, amount, same)

-- ---- some of a list, in order

pub some_more : (xs ys : List ℕ) (v : ℕ) → AreSomeOf xs ys → AreSomeOf xs (ys ++ v ∷ [])
some_more [] ys v some = tt
some_more (x ∷ xs) [] v some = absurd some
some_more (x ∷ xs) (y ∷ ys) v some = by (x == y) (some_more xs ys v) (some_more (x ∷ xs) ys v) some
  where
    by : (b : Bool) → (AreSomeOf xs ys → AreSomeOf xs (ys ++ v ∷ [])) → (AreSomeOf (x ∷ xs) ys → AreSomeOf (x ∷ xs) (ys ++ v ∷ [])) → MatchBool b (AreSomeOf xs ys) (AreSomeOf (x ∷ xs) ys) → MatchBool b (AreSomeOf xs (ys ++ v ∷ [])) (AreSomeOf (x ∷ xs) (ys ++ v ∷ []))
    by true f g h = f h
    by false f g h = g h

pub some_both : (xs ys : List ℕ) (v : ℕ) → AreSomeOf xs ys → AreSomeOf (xs ++ v ∷ []) (ys ++ v ∷ [])
some_both [] [] v some = subst (λ (b : Bool). MatchBool b (Unit {0}) ⊥) (sym (eq-eqb v v refl)) tt
some_both [] (y ∷ ys) v some = by (v == y) (some_both [] ys v tt)
  where
    by : (b : Bool) → AreSomeOf (v ∷ []) (ys ++ v ∷ []) → MatchBool b (Unit {0}) (AreSomeOf (v ∷ []) (ys ++ v ∷ []))
    by true h = tt
    by false h = h
some_both (x ∷ xs) [] v some = absurd some
some_both (x ∷ xs) (y ∷ ys) v some = by (x == y) (some_both xs ys v) (some_both (x ∷ xs) ys v) some
  where
    by : (b : Bool) → (AreSomeOf xs ys → AreSomeOf (xs ++ v ∷ []) (ys ++ v ∷ [])) → (AreSomeOf (x ∷ xs) ys → AreSomeOf (x ∷ xs ++ v ∷ []) (ys ++ v ∷ [])) → MatchBool b (AreSomeOf xs ys) (AreSomeOf (x ∷ xs) ys) → MatchBool b (AreSomeOf (xs ++ v ∷ []) (ys ++ v ∷ [])) (AreSomeOf (x ∷ xs ++ v ∷ []) (ys ++ v ∷ []))
    by true f g h = f h
    by false f g h = g h

pub some_members : (P : ℕ → Type 0) (xs ys : List ℕ) → AreSomeOf xs ys → All P ys → All P xs
some_members P [] ys some all = All-nil P
some_members P (x ∷ xs) [] some all = absurd some
some_members P (x ∷ xs) (y ∷ ys) some all = by (x == y) refl (some_members P xs ys) (some_members P (x ∷ xs) ys) some
  where
    by : (b : Bool) → (x == y) ≡ b → (AreSomeOf xs ys → All P ys → All P xs) → (AreSomeOf (x ∷ xs) ys → All P ys → All P (x ∷ xs)) → MatchBool b (AreSomeOf xs ys) (AreSomeOf (x ∷ xs) ys) → All P (x ∷ xs)
    by true e f g h = All-cons P x xs (subst P (sym (eqb-true x y e)) (All-head P y ys all)) (f h (All-tail P y ys all))
    by false e f g h = g h (All-tail P y ys all)

-- ---- a variable more

pub distinct_with : (seen : List ℕ) (v : ℕ) → AllPairs (λ x y. x ≢ y) seen → AllPairs (λ x y. x ≢ y) (with_variable seen v)
distinct_with seen v apart = by (list_any (λ x. v == x) seen) refl
  where
    by : (b : Bool) → list_any (λ x. v == x) seen ≡ b → AllPairs (λ x y. x ≢ y) (cond b seen (seen ++ v ∷ []))
    by true e = apart
    by false e = all_pairs_push (λ (x y : ℕ). x ≢ y) seen v apart (λ k d short same. (let there : list_any (λ x. v == x) seen ≡ true = any_from_member (λ x. v == x) seen v (subst (Contains seen) same (Contains-get_or seen k d short)) (eq-eqb v v refl) in cc))

pub all_with : (P : ℕ → Type 0) (seen : List ℕ) (v : ℕ) → All P seen → P v → All P (with_variable seen v)
all_with P seen v all here = by (list_any (λ x. v == x) seen)
  where
    by : (b : Bool) → All P (cond b seen (seen ++ v ∷ []))
    by true = all
    by false = All-push P seen v all here

-- ---- a sum that is changed

pub changed_value : (f : ℕ × ℤ → ℤ) (xs : List (ℕ × ℤ)) (i : ℕ) (y d : ℕ × ℤ) → i < length xs → int_sum_by f (set xs i y) +ℤ f (get_or xs i d) ≡ int_sum_by f xs +ℤ f y
changed_value f [] i y d short = absurd (omega arith)
changed_value f (x ∷ xs) zero y d short = omega (arith, ints)
changed_value f (x ∷ xs) (suc i) y d short = (let rest = changed_value f xs i y d (omega arith) in omega (arith, ints))

pub changed_magnitude : (xs : List (ℕ × ℤ)) (i : ℕ) (y d : ℕ × ℤ) → i < length xs → sums_magnitude (set xs i y) + unsigned_abs (get_or xs i d).1 ≡ sums_magnitude xs + unsigned_abs y.1
changed_magnitude [] i y d short = absurd (omega arith)
changed_magnitude (x ∷ xs) zero y d short = omega (arith, sum_by-cons (λ (s : ℕ × ℤ). unsigned_abs s.1) y xs, sum_by-cons (λ (s : ℕ × ℤ). unsigned_abs s.1) x xs)
changed_magnitude (x ∷ xs) (suc i) y d short = omega (arith, changed_magnitude xs i y d (omega arith), sum_by-cons (λ (s : ℕ × ℤ). unsigned_abs s.1) x (set xs i y), sum_by-cons (λ (s : ℕ × ℤ). unsigned_abs s.1) x xs)

pub changed_variables : (xs : List (ℕ × ℤ)) (i : ℕ) (y d : ℕ × ℤ) → i < length xs → y.0 ≡ (get_or xs i d).0 → variables (set xs i y) ≡ variables xs
changed_variables [] i y d short same = absurd (omega arith)
changed_variables (x ∷ xs) zero y d short same = ap (λ (v : ℕ). v ∷ variables xs) same
changed_variables (x ∷ xs) (suc i) y d short same = ap (λ (vs : List ℕ). x.0 ∷ vs) (changed_variables xs i y d (omega arith) same)

pub magnitude_at : (xs : List (ℕ × ℤ)) (i : ℕ) (d : ℕ × ℤ) → i < length xs → unsigned_abs (get_or xs i d).1 ≤ sums_magnitude xs
magnitude_at [] i d short = absurd (omega arith)
magnitude_at (x ∷ xs) zero d short = omega (arith, sum_by-cons (λ (s : ℕ × ℤ). unsigned_abs s.1) x xs)
magnitude_at (x ∷ xs) (suc i) d short = omega (arith, magnitude_at xs i d (omega arith), sum_by-cons (λ (s : ℕ × ℤ). unsigned_abs s.1) x xs)

-- ---- assignments that make all terms true, or none

same_from_variable : (ls : List Literal) (l m : Literal) → AllPairs (λ x y. x.var ≢ y.var) ls → Contains ls l → Contains ls m → l.var ≡ m.var → l ≡ m
same_from_variable [] l m apart l_in m_in same = absurd (Contains-nil l l_in)
same_from_variable (x ∷ ls) l m apart l_in m_in same = elim (Contains-cons_cases x l ls l_in) [
  | inl l_first ↦ elim (Contains-cons_cases x m ls m_in) [
    | inl m_first ↦ sym l_first ∙ m_first
    | inr m_later ↦ absurd (All-contains (λ (y : Literal). x.var ≢ y.var) ls m first m_later (ap (λ (y : Literal). y.var) l_first ∙ same))
  ]
  | inr l_later ↦ elim (Contains-cons_cases x m ls m_in) [
    | inl m_first ↦ absurd (All-contains (λ (y : Literal). x.var ≢ y.var) ls l first l_later (ap (λ (y : Literal). y.var) m_first ∙ sym same))
    | inr m_later ↦ same_from_variable ls l m rest l_later m_later same
  ]
]
  where
    first : All (λ y. x.var ≢ y.var) ls
    first = λ k d short. apart 0 (suc k) d (omega arith) (omega arith)

    rest : AllPairs (λ y z. y.var ≢ z.var) ls
    rest = λ i j d less short. apart (suc i) (suc j) d (omega arith) (omega arith)

abbrev truth_in : List Literal → ℕ → Bool
truth_in ls v = list_any (λ l. l.var == v && not l.neg) ls

abbrev bound_of : List Literal → ℕ
bound_of ls = sum_by (λ l. l.var) ls

abbrev making_true : List Literal → List Bool
making_true ls = map (truth_in ls) (range_with_len 1 (bound_of ls))

within_bound : (ls : List Literal) → All (λ l. l.var ≤ bound_of ls) ls
within_bound [] = All-nil (λ l. l.var ≤ 0)
within_bound (l ∷ ls) = (let sum = sum_by-cons (λ (x : Literal). x.var) l ls in All-cons (λ x. x.var ≤ bound_of (l ∷ ls)) l ls (omega arith) (All-weaker (λ (x : Literal). x.var ≤ bound_of ls) (λ (x : Literal). x.var ≤ bound_of (l ∷ ls)) (λ x le. omega arith) ls (within_bound ls)))

made_value : (ls : List Literal) (v : ℕ) → 0 < v → v ≤ bound_of ls → value_of (making_true ls) v ≡ truth_in ls v
made_value ls v some le = get_or-map-range_with_len (truth_in ls) 1 (bound_of ls) (v - 1) v false (omega arith) (omega arith)

made_true : (ls : List Literal) → AllPairs (λ x y. x.var ≢ y.var) ls → All (λ l. 0 < l.var) ls → (l : Literal) → Contains ls l → lit_true (making_true ls) l ≡ true
made_true ls apart from_one l there =
    ap (λ (b : Bool). if l.neg then not b else b) (made_value ls l.var (All-contains (λ (x : Literal). 0 < x.var) ls l from_one there) (All-contains (λ (x : Literal). x.var ≤ bound_of ls) ls l (within_bound ls) there))
    ∙ by l.neg refl
  where
    sign : (n : Bool) → l.neg ≡ n → (m : Literal) → Contains ls m → n ≡ true → (m.var == l.var && not m.neg) ≡ false
    sign n is m m_in neg = elim (cases_eq m.var l.var) [
      | inl same ↦ and_right (m.var == l.var) (not m.neg) (ap (λ (x : Literal). not x.neg) (same_from_variable ls m l apart m_in there same) ∙ ap not (is ∙ neg))
      | inr other ↦ and_left (m.var == l.var) (not m.neg) (ne_eqb m.var l.var other)
    ]

    by : (n : Bool) → l.neg ≡ n → (if n then not (truth_in ls l.var) else truth_in ls l.var) ≡ true
    by true is = ap not (list_any_none (λ m. m.var == l.var && not m.neg) ls (All-weaker (Contains ls) (λ m. (m.var == l.var && not m.neg) ≡ false) (λ m m_in. sign true is m m_in refl) ls (All-contains_itself ls)))
    by false is = any_from_member (λ m. m.var == l.var && not m.neg) ls l there (and_from (l.var == l.var) (not l.neg) (eq-eqb l.var l.var refl) (ap not is))

all_made : (a : List Bool) (terms : List (Literal × ℕ)) → All (λ t. lit_true a t.0 ≡ true) terms → value a terms ≡ total terms
all_made a [] all = refl
all_made a (t ∷ terms) all =
    let here : term_value a t ≡ t.1 = ap (λ (b : Bool). if b then t.1 else 0) (All-head (λ u. lit_true a u.0 ≡ true) t terms all) in
    omega (arith, all_made a terms (All-tail (λ u. lit_true a u.0 ≡ true) t terms all), sum_by-cons (term_value a) t terms, sum_by-cons (λ (u : Literal × ℕ). u.1) t terms)

none_made : (a : List Bool) (terms : List (Literal × ℕ)) → All (λ t. lit_true a (opposite t.0) ≡ true) terms → value a terms ≡ 0
none_made a [] all = refl
none_made a (t ∷ terms) all =
    let turned : not (lit_true a t.0) ≡ true = sym (truth-opposite a t.0) ∙ All-head (λ u. lit_true a (opposite u.0) ≡ true) t terms all in
    let here : term_value a t ≡ 0 = ap {B = ℕ} (λ (b : Bool). if b then t.1 else 0) (negated (lit_true a t.0) turned) in
    omega (arith, none_made a terms (All-tail (λ u. lit_true a (opposite u.0) ≡ true) t terms all), sum_by-cons (term_value a) t terms)
  where
    negated : (b : Bool) → not b ≡ true → b ≡ false
    negated true e = cc
    negated false e = refl

mapped_pairs : {X : Type 0} (f : X → Literal) (xs : List X) → AllPairs (λ x y. (f x).var ≢ (f y).var) xs → AllPairs (λ l m. l.var ≢ m.var) (map f xs)
mapped_pairs f [] apart = λ i j d less short. absurd (omega arith)
mapped_pairs f (x ∷ xs) apart = pairs_cons (f x) (map f xs) (All-map (λ (m : Literal). (f x).var ≢ m.var) f xs (λ k d short. apart 0 (suc k) d (omega arith) (omega arith))) (mapped_pairs f xs (λ i j d less short. apart (suc i) (suc j) d (omega arith) (omega arith)))
  where
    pairs_cons : (l : Literal) (ls : List Literal) → All (λ m. l.var ≢ m.var) ls → AllPairs (λ y z. y.var ≢ z.var) ls → AllPairs (λ y z. y.var ≢ z.var) (l ∷ ls)
    pairs_cons l ls first rest zero zero d less short = absurd (omega arith)
    pairs_cons l ls first rest (suc i) zero d less short = absurd (omega arith)
    pairs_cons l ls first rest zero (suc j) d less short = first j d (omega arith)
    pairs_cons l ls first rest (suc i) (suc j) d less short = rest i j d (omega arith) (omega arith)

pub highest : (terms : List (Literal × ℕ)) → All (λ t. 0 < t.0.var) terms → AllPairs (λ s t. s.0.var ≢ t.0.var) terms → (a : List Bool) × (value a terms ≡ total terms)
highest terms from_one apart =
    let ls : List Literal = map (λ t. t.0) terms in
    let made = made_true ls (mapped_pairs (λ (t : Literal × ℕ). t.0) terms apart) (All-map (λ (l : Literal). 0 < l.var) (λ (t : Literal × ℕ). t.0) terms from_one) in
    (making_true ls, all_made (making_true ls) terms (All-weaker (Contains terms) (λ (t : Literal × ℕ). lit_true (making_true ls) t.0 ≡ true) (λ t there. made t.0 (member_mapped (λ (u : Literal × ℕ). u.0) terms t there)) terms (All-contains_itself terms)))

pub lowest : (terms : List (Literal × ℕ)) → All (λ t. 0 < t.0.var) terms → AllPairs (λ s t. s.0.var ≢ t.0.var) terms → (a : List Bool) × (value a terms ≡ 0)
lowest terms from_one apart =
    let ls : List Literal = map (λ t. opposite t.0) terms in
    let made = made_true ls (mapped_pairs (λ (t : Literal × ℕ). opposite t.0) terms apart) (All-map (λ (l : Literal). 0 < l.var) (λ (t : Literal × ℕ). opposite t.0) terms from_one) in
    (making_true ls, none_made (making_true ls) terms (All-weaker (Contains terms) (λ (t : Literal × ℕ). lit_true (making_true ls) (opposite t.0) ≡ true) (λ t there. made (opposite t.0) (member_mapped (λ (u : Literal × ℕ). opposite u.0) terms t there)) terms (All-contains_itself terms)))

-- ---- one sum more

pub sums-push : (a : List Bool) (done : List (ℕ × ℤ)) (s : ℕ × ℤ) → sums_value a (done ++ s ∷ []) ≡ sums_value a done +ℤ variable_value a s
sums-push a done s = (let sum = int_sum-append (variable_value a) done (s ∷ []) in omega (arith, ints))

order_more : (old new terms : List (Literal × ℕ)) (done : List (ℕ × ℤ)) (s : ℕ × ℤ) → new ≡ old ++ terms → length terms ≤ 1 → All (λ t. t.0.var ≡ s.0) terms → AreSomeOf (map (λ t. t.0.var) old) (variables done) → AreSomeOf (map (λ t. t.0.var) new) (variables (done ++ s ∷ []))
order_more old new terms done s row one own some = subst (λ (vs : List ℕ). AreSomeOf (map (λ t. t.0.var) new) vs) (sym (map-append (λ (x : ℕ × ℤ). x.0) done (s ∷ []))) (subst (λ (ts : List (Literal × ℕ)). AreSomeOf (map (λ t. t.0.var) ts) (variables done ++ s.0 ∷ [])) (sym row) (by terms one own))
  where
    by : (ts : List (Literal × ℕ)) → length ts ≤ 1 → All (λ t. t.0.var ≡ s.0) ts → AreSomeOf (map (λ t. t.0.var) (old ++ ts)) (variables done ++ s.0 ∷ [])
    by [] one' own' = subst (λ (ts : List (Literal × ℕ)). AreSomeOf (map (λ t. t.0.var) ts) (variables done ++ s.0 ∷ [])) (sym (append-nil old)) (some_more (map (λ t. t.0.var) old) (variables done) s.0 some)
    by (t ∷ []) one' own' = subst (λ (vs : List ℕ). AreSomeOf vs (variables done ++ s.0 ∷ [])) (sym (map-append (λ (x : Literal × ℕ). x.0.var) old (t ∷ []))) (subst (λ (v : ℕ). AreSomeOf (map (λ t. t.0.var) old ++ v ∷ []) (variables done ++ s.0 ∷ [])) (sym (All-head (λ (x : Literal × ℕ). x.0.var ≡ s.0) t [] own')) (some_both (map (λ t. t.0.var) old) (variables done) s.0 some))
    by (t ∷ u ∷ ts) one' own' = absurd (omega arith)

distinct_more : (old new terms : List (Literal × ℕ)) (v : ℕ) → new ≡ old ++ terms → length terms ≤ 1 → All (λ t. t.0.var ≡ v) terms → All (λ t. t.0.var ≢ v) old → AllPairs (λ s t. s.0.var ≢ t.0.var) old → AllPairs (λ s t. s.0.var ≢ t.0.var) new
distinct_more old new terms v row one own others apart = subst (AllPairs (λ (s t : Literal × ℕ). s.0.var ≢ t.0.var)) (sym row) (by terms one own)
  where
    by : (ts : List (Literal × ℕ)) → length ts ≤ 1 → All (λ t. t.0.var ≡ v) ts → AllPairs (λ s t. s.0.var ≢ t.0.var) (old ++ ts)
    by [] one' own' = subst (AllPairs (λ (s t : Literal × ℕ). s.0.var ≢ t.0.var)) (sym (append-nil old)) apart
    by (t ∷ []) one' own' = all_pairs_push (λ (s t : Literal × ℕ). s.0.var ≢ t.0.var) old t apart (λ k d short same. others k d short (same ∙ All-head (λ (x : Literal × ℕ). x.0.var ≡ v) t [] own'))
    by (t ∷ u ∷ ts) one' own' = absurd (omega arith)

pub stand_for_more : (done : List (ℕ × ℤ)) (s : ℕ × ℤ) (offset left constant next : ℤ) (old new : List (Literal × ℕ)) → StandForSums done offset old left → IsSignedTerm s old new constant → 0 < s.0 → All (λ v. v ≢ s.0) (variables done) → next ≡ left +ℤ constant → StandForSums (done ++ s ∷ []) offset new next
stand_for_more done s offset left constant next old new so_far added some others moved = record {
  value = λ a.
      let pushed = sums-push a done s in
      let both = ap (sum_by (term_value a)) added.row ∙ sum_by-append (term_value a) old added.terms in
      let before = so_far.value a in
      let here = added.value a in
      omega (arith, ints);
  positive = subst (All (λ (t : Literal × ℕ). 0 < t.1)) (sym added.row) (All-append (λ (t : Literal × ℕ). 0 < t.1) old added.terms so_far.positive added.positive);
  from_one = subst (All (λ (t : Literal × ℕ). 0 < t.0.var)) (sym added.row) (All-append (λ (t : Literal × ℕ). 0 < t.0.var) old added.terms so_far.from_one (All-weaker (λ (t : Literal × ℕ). t.0.var ≡ s.0) (λ (t : Literal × ℕ). 0 < t.0.var) (λ t is. omega arith) added.terms added.own));
  order = order_more old new added.terms done s added.row added.one added.own so_far.order;
  distinct = distinct_more old new added.terms s.0 added.row added.one added.own (all_unmapped (λ v. v ≢ s.0) (λ (t : Literal × ℕ). t.0.var) old (some_members (λ v. v ≢ s.0) (map (λ t. t.0.var) old) (variables done) so_far.order others)) so_far.distinct;
  total = omega (arith, ap (sum_by (λ (t : Literal × ℕ). t.1)) added.row, sum_by-append (λ (t : Literal × ℕ). t.1) old added.terms, sum_by_push (λ (x : ℕ × ℤ). unsigned_abs x.1) done s, so_far.total, added.total);
  low = omega (arith, ints, sum_by_push (λ (x : ℕ × ℤ). unsigned_abs x.1) done s, so_far.low, added.low);
}

-- all values small, so the offset and the greatest value are
pub cost_row_from : (sums : List (ℕ × ℤ)) (offset left : ℤ) (terms : List (Literal × ℕ)) → StandForSums sums offset terms left → sums_magnitude sums < 2 ^ 63 → ((a : List Bool) → unsigned_abs (sums_value a sums +ℤ offset) < 2 ^ 63) → IsCostRow terms left
cost_row_from sums offset left terms stand small bounds =
    let high = highest terms stand.from_one stand.distinct in
    let low = lowest terms stand.from_one stand.distinct in
    let high_value = stand.value high.0 in
    let low_value = stand.value low.0 in
    let high_bound = bounds high.0 in
    let low_bound = bounds low.0 in
    record {
      positive = stand.positive;
      from_one = stand.from_one;
      distinct = stand.distinct;
      small = omega (arith, stand.total);
      least = omega (arith, ints, low.1);
      greatest = omega (arith, ints, high.1);
    }

-- a variable is none of those before it
pub others_before : (sums : List (ℕ × ℤ)) (i : ℕ) (d : ℕ × ℤ) → i < length sums → AllPairs (λ x y. x ≢ y) (variables sums) → All (λ v. v ≢ (get_or sums i d).0) (variables (take i sums))
others_before [] i d short apart = absurd (omega arith)
others_before (x ∷ sums) zero d short apart = All-nil (λ v. v ≢ x.0)
others_before (x ∷ sums) (suc i) d short apart = All-cons (λ v. v ≢ (get_or sums i d).0) x.0 (variables (take i sums)) here (others_before sums i d (omega arith) (λ j k e less below. apart (suc j) (suc k) e (omega arith) (omega arith)))
  where
    here : x.0 ≢ (get_or sums i d).0
    here = λ same. apart 0 (suc i) 0 (omega arith) (omega (arith, length-map sums (λ (y : ℕ × ℤ). y.0))) (same ∙ sym (get_or-map (λ (y : ℕ × ℤ). y.0) sums i d 0 (omega arith)))

pub first_seen-push : (terms : List (ℤ × Literal)) (t : ℤ × Literal) → first_seen (terms ++ t ∷ []) ≡ with_variable (first_seen terms) t.1.var
first_seen-push terms t = ap (fold with_variable []) (map-append (λ (u : ℤ × Literal). u.1.var) terms (t ∷ [])) ∙ fold_push with_variable [] (map (λ u. u.1.var) terms) t.1.var

pub variables_with : (seen : List ℕ) (v : ℕ) → AreVariables seen → 0 < v → v < 2 ^ 63 → AreVariables (with_variable seen v)
variables_with seen v are some below = record {
  from_one = all_with (λ x. 0 < x) seen v are.from_one some;
  below = all_with (λ x. x < 2 ^ 63) seen v are.below below;
  distinct = distinct_with seen v are.distinct;
}
