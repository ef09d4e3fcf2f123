-- How far one left side can be above another: the greatest excess bounds it, and an assignment reaches it.
use Rattle.std.proofs.Common.{◌≡◌, ◌≢◌, ◌⊎◌, ℕ, ◌+◌, ◌-◌, ◌<◌, ◌≤◌, ◌==◌, ◌&&◌, ◌||◌, Bool, true, false, not, if◌then◌else◌, List, [], ◌∷◌, suc, length, get_or, map, sum_by, arith, ⊎_elim, subst, sym, ap, ◌∙◌, refl, ltb, inl, inr}
use Rattle.std.proofs.Math.Bool.{beq}
use Rattle.std.specs.List.{AllPairs, list_any, range_with_len}
use Rattle.std.proofs.lemmas.Bool.{and_left, and_right, and_from, and_parts, ne_eqb, eq-eqb, eqb-true, cases_Bool, cases_eq, cond-true, cond-false, cond_both}
use Rattle.std.proofs.lemmas.Bool.Decides.{nat_tests}
use Rattle.std.proofs.lemmas.List.{get_or_default}
use Rattle.std.proofs.lemmas.List.Folds.{list_any_at, Any-from_list_any}
use Rattle.std.proofs.lemmas.List.FromFn.{get_or-map-range_with_len}
use Rattle.std.proofs.lemmas.List.Sums.{sum_by-cons, sum_by-le-sum_by, get_or-le-sum_by}
use Rattle.scut_base.specs.Literal.{Literal, is_same}
use Rattle.scut_base.specs.Assignment.{value_of, lit_true}
use Rattle.pb_lin.specs.Constraint.{ConstraintValue, IsNormal, Covers, term_value, value, opposite}
use Rattle.pb_lin.specs.Cover.{coefficient, greatest_excess}
use Rattle.scut_base.proofs.Lists.{AllApart, AllApart-from_pairs, sum_by_zero, sum_by_single, sum_by_same, sum_by-add, sum_by_same_in}
use Rattle.pb_lin.proofs.Truths.{beq_same, beq_other}

abbrev pub Terms : Type 0
Terms = List (Literal × ℕ)

beq-true : (x y : Bool) → beq x y ≡ true → x ≡ y
beq-true true true e = refl
beq-true true false e = cc
beq-true false true e = cc
beq-true false false e = refl

pub is_same-true : (l m : Literal) → is_same l m ≡ true → l ≡ m
is_same-true l m e =
    let parts = and_parts (l.var == m.var) (beq l.neg m.neg) e in
    let var : l.var ≡ m.var = eqb-true l.var m.var parts.0 in
    let neg : l.neg ≡ m.neg = beq-true l.neg m.neg parts.1 in
    let this : Literal = record { var = l.var; neg = l.neg } in
    ap (λ (v : ℕ). let r : Literal = record { var = v; neg = l.neg } in r) var ∙ ap (λ (n : Bool). let r : Literal = record { var = m.var; neg = n } in r) neg

-- whether a literal is one of those of the terms
has : Terms → Literal → Bool
has terms l = list_any (λ t. is_same l t.0) terms

-- the sum of the terms' coefficients in the other list, where g holds
shared : (Literal → Bool) → Terms → Terms → ℕ
shared g left right = sum_by (λ t. if g t.0 then coefficient right t.0 else 0) left

-- a literal of the first term or of the others
hit : (w r n : ℕ) (gt gs same h : Bool) → w ≡ (if gt then (if same then n else 0) else 0) + r → same ≡ true → gt ≡ gs → r ≡ 0 → w ≡ (if gs && (same || h) then n else 0)
hit w r n true true true h e s g z = omega arith
hit w r n false false true h e s g z = omega arith
hit w r n true false true h e s g z = cc
hit w r n false true true h e s g z = cc
hit w r n gt gs false h e s g z = cc

miss : (w r n : ℕ) (gt gs same h : Bool) → w ≡ (if gt then (if same then n else 0) else 0) + r → same ≡ false → r ≡ (if gs && h then n else 0) → w ≡ (if gs && (same || h) then n else 0)
miss w r n true gs false h e s z = omega arith
miss w r n false gs false h e s z = omega arith
miss w r n gt gs true h e s z = cc

-- one term of the other list
one_shared : (Literal → Bool) → Literal × ℕ → Literal × ℕ → ℕ
one_shared g s t = if g t.0 then (if is_same s.0 t.0 then s.1 else 0) else 0

-- it counts once at most
one_shared_is : (g : Literal → Bool) (left : Terms) (s : Literal × ℕ) → AllPairs (λ x y. x.0.var < y.0.var) left → sum_by (one_shared g s) left ≡ (if g s.0 && has left s.0 then s.1 else 0)
unfolding has one_shared
one_shared_is g [] s up = sym (cond-false _ _ _ (and_right (g s.0) false refl))
one_shared_is g (t ∷ ts) s up = ⊎_elim same (other (one_shared_is g ts s (λ i j d less short. up (suc i) (suc j) d (omega arith) (omega arith)))) (cases_Bool (is_same s.0 t.0))
  where
    cons : sum_by (one_shared g s) (t ∷ ts) ≡ one_shared g s t + sum_by (one_shared g s) ts
    cons = sum_by-cons (one_shared g s) t ts

    above : (k : ℕ) (d : Literal × ℕ) → k < length ts → t.0.var < (get_or ts k d).0.var
    above k d short = up 0 (suc k) d (omega arith) (omega arith)

    none : s.0.var ≡ t.0.var → (k : ℕ) (d : Literal × ℕ) → k < length ts → one_shared g s (get_or ts k d) ≡ 0
    none var k d short =
        let more = above k d short in
        let apart = and_left (s.0.var == (get_or ts k d).0.var) (beq s.0.neg (get_or ts k d).0.neg) (ne_eqb _ _ (λ e. omega arith)) in
        cond_both (g (get_or ts k d).0) (if is_same s.0 (get_or ts k d).0 then s.1 else 0) 0 (λ (n : ℕ). n ≡ 0) (λ _. cond-false _ _ _ apart) (λ _. refl)

    same : is_same s.0 t.0 ≡ true → sum_by (one_shared g s) (t ∷ ts) ≡ (if g s.0 && has (t ∷ ts) s.0 then s.1 else 0)
    same e =
        let is : s.0 ≡ t.0 = is_same-true s.0 t.0 e in
        hit _ (sum_by (one_shared g s) ts) s.1 (g t.0) (g s.0) (is_same s.0 t.0) (has ts s.0) cons e (ap g (sym is)) (sum_by_zero (one_shared g s) ts (none (ap (λ (l : Literal). l.var) is)))

    other : sum_by (one_shared g s) ts ≡ (if g s.0 && has ts s.0 then s.1 else 0) → is_same s.0 t.0 ≡ false → sum_by (one_shared g s) (t ∷ ts) ≡ (if g s.0 && has (t ∷ ts) s.0 then s.1 else 0)
    other rest e = miss _ (sum_by (one_shared g s) ts) s.1 (g t.0) (g s.0) (is_same s.0 t.0) (has ts s.0) cons e rest

split_cond : (b : Bool) (x y z : ℕ) → x ≡ y + z → (if b then x else 0) ≡ (if b then y else 0) + (if b then z else 0)
split_cond true x y z e = e
split_cond false x y z e = omega arith

shared_is : (g : Literal → Bool) (left right : Terms) → AllPairs (λ x y. x.0.var < y.0.var) left → shared g left right ≡ sum_by (λ s. if g s.0 && has left s.0 then s.1 else 0) right
unfolding shared one_shared
shared_is g left [] up = sum_by_zero (λ t. if g t.0 then coefficient [] t.0 else 0) left (λ k d short. cond_both (g (get_or left k d).0) 0 0 (λ (n : ℕ). n ≡ 0) (λ _. refl) (λ _. refl))
shared_is g left (s ∷ right) up =
    let each : (t : Literal × ℕ) → (if g t.0 then coefficient (s ∷ right) t.0 else 0) ≡ one_shared g s t + (if g t.0 then coefficient right t.0 else 0)
    = λ t. split_cond (g t.0) (coefficient (s ∷ right) t.0) (if is_same s.0 t.0 then s.1 else 0) (coefficient right t.0) (sum_by-cons (λ r. if is_same r.0 t.0 then r.1 else 0) s right) in
    let all = sum_by_same (λ t. if g t.0 then coefficient (s ∷ right) t.0 else 0) (λ t. one_shared g s t + (if g t.0 then coefficient right t.0 else 0)) each left in
    let both = sum_by-add (one_shared g s) (λ t. if g t.0 then coefficient right t.0 else 0) left in
    let one = one_shared_is g left s up in
    let rest = shared_is g left right up in
    let cons = sum_by-cons (λ r. if g r.0 && has left r.0 then r.1 else 0) s right in
    omega arith

part-le : (b : Bool) (n m : ℕ) → (if b then n else 0) ≤ (n - m) + (if b then m else 0)
part-le true n m = omega arith
part-le false n m = omega arith

and-le : (b c : Bool) (n : ℕ) → (if b && c then n else 0) ≤ (if b then n else 0)
and-le true true n = omega arith
and-le true false n = omega arith
and-le false c n = omega arith

-- no value is further above the other
pub excess_bound : (a : List Bool) (left right : Terms) → AllPairs (λ x y. x.0.var < y.0.var) left → value a left ≤ greatest_excess left right + value a right
unfolding shared
excess_bound a left right up =
    let parts = sum_by-le-sum_by (term_value a) (λ t. (t.1 - coefficient right t.0) + (if lit_true a t.0 then coefficient right t.0 else 0)) left (λ t. part-le (lit_true a t.0) t.1 (coefficient right t.0)) in
    let both = sum_by-add (λ t. t.1 - coefficient right t.0) (λ t. if lit_true a t.0 then coefficient right t.0 else 0) left in
    let common = shared_is (lit_true a) left right up in
    let less = sum_by-le-sum_by (λ s. if lit_true a s.0 && has left s.0 then s.1 else 0) (term_value a) right (λ s. and-le (lit_true a s.0) (has left s.0) s.1) in
    omega arith

-- ---- the assignment that reaches it

pub same_literal : (l m : Literal) → l ≡ m → is_same l m ≡ true
same_literal l m e = and_from (l.var == m.var) (beq l.neg m.neg) (eq-eqb l.var m.var (ap (λ (k : Literal). k.var) e)) (beq_same l.neg m.neg (ap (λ (k : Literal). k.neg) e))

is_same-flip : (l m : Literal) → is_same l m ≡ is_same m l
is_same-flip l m = ⊎_elim (λ e. e ∙ sym (same_literal m l (sym (is_same-true l m e)))) (λ n. ⊎_elim (λ (e : is_same m l ≡ true). let t = same_literal l m (sym (is_same-true m l e)) in cc) (λ (e : is_same m l ≡ false). n ∙ sym e) (cases_Bool (is_same m l))) (cases_Bool (is_same l m))

-- a literal with a coefficient stands there
has_from_coefficient : (terms : Terms) (l : Literal) → 0 < coefficient terms l → has terms l ≡ true
unfolding has
has_from_coefficient terms l positive = ⊎_elim (λ e. e) (λ (n : has terms l ≡ false).
    let none : coefficient terms l ≡ 0 = sum_by_zero (λ t. if is_same t.0 l then t.1 else 0) terms (λ k d short.
    ⊎_elim (λ (e : is_same (get_or terms k d).0 l ≡ true). let found = list_any_at (λ t. is_same l t.0) terms k d short (is_same-flip l (get_or terms k d).0 ∙ e) in cc)
    (λ (e : is_same (get_or terms k d).0 l ≡ false). cond-false _ _ _ e) (cases_Bool (is_same (get_or terms k d).0 l))) in
    absurd (omega arith)) (cases_Bool (has terms l))

-- terms of other variables
apart_terms : (terms : Terms) → AllPairs (λ x y. x.0.var < y.0.var) terms → AllApart (λ x y. x.0.var ≢ y.0.var) terms
apart_terms terms up = AllApart-from_pairs (λ x y. x.0.var ≢ y.0.var) terms (λ x y other e. other (sym e)) (λ i j d less short e. let h = up i j d less short in omega arith)

pub coefficient_of_term : (terms : Terms) → AllPairs (λ x y. x.0.var < y.0.var) terms → (k : ℕ) (d : Literal × ℕ) → k < length terms → coefficient terms (get_or terms k d).0 ≡ (get_or terms k d).1
coefficient_of_term terms up k d short =
    sum_by_single (λ t. if is_same t.0 (get_or terms k d).0 then t.1 else 0) terms k d short (λ j e h apart.
    let same : get_or terms k d ≡ get_or terms k e = get_or_default terms k d e short in
    cond-false _ _ _ (and_left _ _ (ne_eqb _ _ (λ var. apart_terms terms up j k e apart h short (var ∙ ap (λ (t : Literal × ℕ). t.0.var) same)))))
    ∙ cond-true _ _ _ (same_literal (get_or terms k d).0 (get_or terms k d).0 refl)

not_not : (b : Bool) → b ≢ not b
not_not true e = cc
not_not false e = cc

pub coefficient_of_opposite : (terms : Terms) → AllPairs (λ x y. x.0.var < y.0.var) terms → (k : ℕ) (d : Literal × ℕ) → k < length terms → coefficient terms (opposite (get_or terms k d).0) ≡ 0
coefficient_of_opposite terms up k d short = sum_by_zero (λ t. if is_same t.0 (opposite (get_or terms k d).0) then t.1 else 0) terms (λ j e h. cond-false (is_same (get_or terms j e).0 (opposite (get_or terms k d).0)) (get_or terms j e).1 0 (apart j e h))
  where
    apart : (j : ℕ) (e : Literal × ℕ) → j < length terms → is_same (get_or terms j e).0 (opposite (get_or terms k d).0) ≡ false
    apart j e h =
        let same : get_or terms k d ≡ get_or terms k e = get_or_default terms k d e short in
        let x = (get_or terms j e).0 in
        let y = opposite (get_or terms k d).0 in
        ⊎_elim
        (λ (is : j ≡ k). and_right (x.var == y.var) (beq x.neg y.neg) (beq_other x.neg y.neg (λ neg. not_not (get_or terms k d).0.neg (ap (λ (t : Literal × ℕ). t.0.neg) same ∙ sym (ap (λ (i : ℕ). (get_or terms i e).0.neg) is) ∙ neg))))
        (λ (other : j ≢ k). and_left (x.var == y.var) (beq x.neg y.neg) (ne_eqb x.var y.var (λ var. apart_terms terms up j k e other h short (var ∙ ap (λ (t : Literal × ℕ). t.0.var) same))))
        (cases_eq j k)

-- the term of a literal with a coefficient
pub term_of : (terms : Terms) (l : Literal) → 0 < coefficient terms l → (k : ℕ) × (d : Literal × ℕ) × (k < length terms) × ((get_or terms k d).0 ≡ l)
unfolding has
term_of terms l positive =
    let found = Any-from_list_any (λ t. is_same l t.0) terms (has_from_coefficient terms l positive) in
    (found.0, found.1, found.2, ap (λ (t : Literal × ℕ). t.0) found.3 ∙ sym (is_same-true l found.1.0 found.4))

-- at most one of a variable's literals has a coefficient
only_one : (terms : Terms) → AllPairs (λ x y. x.0.var < y.0.var) terms → (l : Literal) → (coefficient terms l ≡ 0) ⊎ (coefficient terms (opposite l) ≡ 0)
only_one terms up l = ⊎_elim (λ (zero : coefficient terms l ≡ 0). inl zero) (λ (some : coefficient terms l ≢ 0).
    let found = term_of terms l (omega arith) in
    inr (subst (λ (m : Literal). coefficient terms (opposite m) ≡ 0) found.3 (coefficient_of_opposite terms up found.0 found.1 found.2)))
    (cases_eq (coefficient terms l) 0)

-- the value of a variable that brings the left side furthest above the right one, by the coefficients of its literals
best : (left_true left_false right_true right_false : ℕ) → Bool
best lt lf rt rf = if ltb rt lt then true else (if ltb rf lf then false else not (ltb 0 rt))

literal_of : ℕ → Bool → Literal
literal_of v neg = record { var = v; neg = neg }

best_of : Terms → Terms → ℕ → Bool
best_of left right v = best (coefficient left (literal_of v false)) (coefficient left (literal_of v true)) (coefficient right (literal_of v false)) (coefficient right (literal_of v true))

best_true : Terms → Terms → Literal → Bool
best_true left right l = if l.neg then not (best_of left right l.var) else best_of left right l.var

-- what a term of the left side gains, by the coefficients
gain_true : (lt lf rt rf : ℕ) → 0 < lt → lf ≡ 0 → (if best lt lf rt rf then lt else 0) ≡ (lt - rt) + (if best lt lf rt rf then rt else 0)
unfolding best
gain_true lt lf rt rf positive none = grind (arith, nat_tests)

gain_false : (lt lf rt rf : ℕ) → 0 < lf → lt ≡ 0 → (rf ≡ 0) ⊎ (rt ≡ 0) → (if not (best lt lf rt rf) then lf else 0) ≡ (lf - rf) + (if not (best lt lf rt rf) then rf else 0)
unfolding best
gain_false lt lf rt rf positive none one = grind (arith, nat_tests)

-- a literal of the right side that is true stands on the left side
common_true : (lt lf rt rf : ℕ) → 0 < rt → best lt lf rt rf ≡ true → 0 < lt
unfolding best
common_true lt lf rt rf positive e = grind (arith, nat_tests)

common_false : (lt lf rt rf : ℕ) → 0 < rf → rt ≡ 0 → not (best lt lf rt rf) ≡ true → 0 < lf
unfolding best
common_false lt lf rt rf positive none e = grind (arith, nat_tests)

-- what a literal of the left side gains
gain : (left right : Terms) (v : ℕ) (neg : Bool) (n : ℕ) → let l = literal_of v neg in coefficient left l ≡ n → 0 < n → coefficient left (opposite l) ≡ 0 → (coefficient right l ≡ 0) ⊎ (coefficient right (opposite l) ≡ 0) → (if best_true left right l then n else 0) ≡ (n - coefficient right l) + (if best_true left right l then coefficient right l else 0)
unfolding best_true best_of literal_of
gain left right v false n is positive none one =
    let lt = coefficient left (literal_of v false) in
    let lf = coefficient left (literal_of v true) in
    let rt = coefficient right (literal_of v false) in
    let rf = coefficient right (literal_of v true) in
    subst (λ (m : ℕ). (if best lt lf rt rf then m else 0) ≡ (m - rt) + (if best lt lf rt rf then rt else 0)) is (gain_true lt lf rt rf (omega arith) none)
gain left right v true n is positive none one =
    let lt = coefficient left (literal_of v false) in
    let lf = coefficient left (literal_of v true) in
    let rt = coefficient right (literal_of v false) in
    let rf = coefficient right (literal_of v true) in
    subst (λ (m : ℕ). (if not (best lt lf rt rf) then m else 0) ≡ (m - rf) + (if not (best lt lf rt rf) then rf else 0)) is (gain_false lt lf rt rf (omega arith) none one)

-- a literal of the right side that is true has a coefficient on the left side
common : (left right : Terms) (v : ℕ) (neg : Bool) → let l = literal_of v neg in 0 < coefficient right l → coefficient right (opposite l) ≡ 0 → best_true left right l ≡ true → 0 < coefficient left l
unfolding best_true best_of literal_of
common left right v false positive none e = common_true (coefficient left (literal_of v false)) (coefficient left (literal_of v true)) (coefficient right (literal_of v false)) (coefficient right (literal_of v true)) positive e
common left right v true positive none e = common_false (coefficient left (literal_of v false)) (coefficient left (literal_of v true)) (coefficient right (literal_of v false)) (coefficient right (literal_of v true)) positive none e

-- the first n of those values
best_list : Terms → Terms → ℕ → List Bool
best_list left right n = map (λ i. best_of left right (i + 1)) (range_with_len 0 n)

best_list_true : (left right : Terms) (n : ℕ) (l : Literal) → 0 < l.var → l.var ≤ n → lit_true (best_list left right n) l ≡ best_true left right l
unfolding best_list best_true
best_list_true left right n l from_one upto =
    let value : value_of (best_list left right n) l.var ≡ best_of left right l.var =
    get_or-map-range_with_len (λ i. best_of left right (i + 1)) 0 n (l.var - 1) (l.var - 1) false (omega arith) (omega arith)
    ∙ ap (best_of left right) (omega arith) in
    ap (λ (b : Bool). if l.neg then not b else b) value

and_same : (b c : Bool) (n : ℕ) → (b ≡ true → c ≡ true) → (if b && c then n else 0) ≡ (if b then n else 0)
and_same true true n h = refl
and_same true false n h = let e = h refl in cc
and_same false c n h = refl

-- an assignment under which the left side is as far above the other as can be
pub excess_reached : (left right : Terms) (ld rd : ℕ) → IsNormal left ld → IsNormal right rd → (a : List Bool) × (value a left ≡ greatest_excess left right + value a right)
unfolding shared literal_of
excess_reached left right ld rd nl nr = (a, total_is)
  where
    vars : Terms → ℕ
    vars terms = sum_by (λ t. t.0.var) terms

    a : List Bool
    a = best_list left right (vars left + vars right)

    on_left : (k : ℕ) (d : Literal × ℕ) → k < length left → term_value a (get_or left k d) ≡ ((get_or left k d).1 - coefficient right (get_or left k d).0) + (if lit_true a (get_or left k d).0 then coefficient right (get_or left k d).0 else 0)
    on_left k d short =
        let t = get_or left k d in
        let within = get_or-le-sum_by (λ (s : Literal × ℕ). s.0.var) left k d short in
        let same : lit_true a t.0 ≡ best_true left right t.0 = best_list_true left right (vars left + vars right) t.0 (nl.merged.from_one k d short) (omega arith) in
        subst (λ (b : Bool). (if b then t.1 else 0) ≡ (t.1 - coefficient right t.0) + (if b then coefficient right t.0 else 0)) (sym same)
        (gain left right t.0.var t.0.neg t.1 (coefficient_of_term left nl.merged.rising k d short) (nl.merged.positive k d short) (coefficient_of_opposite left nl.merged.rising k d short) (only_one right nr.merged.rising t.0))

    on_right : (k : ℕ) (d : Literal × ℕ) → k < length right → (if lit_true a (get_or right k d).0 && has left (get_or right k d).0 then (get_or right k d).1 else 0) ≡ term_value a (get_or right k d)
    on_right k d short =
        let t = get_or right k d in
        let within = get_or-le-sum_by (λ (s : Literal × ℕ). s.0.var) right k d short in
        let same : lit_true a t.0 ≡ best_true left right t.0 = best_list_true left right (vars left + vars right) t.0 (nr.merged.from_one k d short) (omega arith) in
        let is = coefficient_of_term right nr.merged.rising k d short in
        let positive = nr.merged.positive k d short in
        and_same (lit_true a t.0) (has left t.0) t.1 (λ e. has_from_coefficient left t.0 (common left right t.0.var t.0.neg (omega arith) (coefficient_of_opposite right nr.merged.rising k d short) (sym same ∙ e)))

    total_is : value a left ≡ greatest_excess left right + value a right
    total_is =
        let parts = sum_by_same_in (term_value a) (λ t. (t.1 - coefficient right t.0) + (if lit_true a t.0 then coefficient right t.0 else 0)) left on_left in
        let both = sum_by-add (λ t. t.1 - coefficient right t.0) (λ t. if lit_true a t.0 then coefficient right t.0 else 0) left in
        let shared' = shared_is (lit_true a) left right nl.merged.rising in
        let rest = sum_by_same_in (λ s. if lit_true a s.0 && has left s.0 then s.1 else 0) (term_value a) right on_right in
        omega arith

-- the test that decides it
pub Covers-from_excess : (p q : ConstraintValue) → IsNormal p.terms p.degree → greatest_excess p.terms q.terms + q.degree ≤ p.degree → Covers p q
Covers-from_excess p q n less a = let bound = excess_bound a p.terms q.terms n.merged.rising in omega arith

pub excess_from_Covers : (p q : ConstraintValue) → IsNormal p.terms p.degree → IsNormal q.terms q.degree → Covers p q → greatest_excess p.terms q.terms + q.degree ≤ p.degree
excess_from_Covers p q np nq covers =
    let reached = excess_reached p.terms q.terms p.degree q.degree np nq in
    let here = covers reached.0 in
    let is = reached.1 in
    omega arith
