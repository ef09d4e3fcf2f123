-- What the tests of a literal say of terms.
use Rattle.std.proofs.Common.{◌≡◌, ℕ, ◌+◌, ◌<◌, ◌==◌, Bool, true, false, not, ◌&&◌, ◌||◌, if◌then◌else◌, List, [], ◌∷◌, get_or, sum_by, refl, ap, sym, subst, ◌∙◌, arith}
use Rattle.std.proofs.Math.Bool.{beq}
use Rattle.std.specs.Prelude.{nat_lt}
use Rattle.std.specs.List.{All, list_any}
use Rattle.std.proofs.lemmas.Bool.{and_from, and_parts, eq-eqb, eqb-true, lt-ltb, or_left, or_parts, or_right}
use Rattle.std.proofs.lemmas.List.Elements.{All-nil, All-cons, All-head, All-tail}
use Rattle.std.proofs.lemmas.List.Sums.{sum_by-cons}
use Rattle.scut_base.specs.Literal.{Literal, is_same}
use Rattle.pb_lin.specs.Constraint.{ConstraintValue, literals, opposite}
use Rattle.pb_lin.specs.CostRow.{CostRowValue}
use Rattle.pb_lin.specs.Problem.{ProblemValue}
use Rattle.pb_lin.specs.Substitution.{has_image, touches}
use Rattle.cutting_planes.specs.Rules.{coefficient_in}
use Rattle.cutting_planes.proofs.Terms.{Terms}
use Rattle.harden.specs.Hardened.{occurs, in_rows, in_costs, can_fix, falsified}
use Rattle.harden.specs.Laws.{OnlyAs, coefficient}

literal_same : (m l : Literal) → m.var ≡ l.var → m.neg ≡ l.neg → m ≡ l
literal_same m l one two = ap (λ (v : ℕ). record { var = v; neg = m.neg }) one ∙ ap (λ (b : Bool). record { var = l.var; neg = b }) two

-- no literal passes the test
none_pass : {X : Type 0} (test : X → Bool) (xs : List X) → list_any test xs ≡ false → All (λ x. test x ≡ false) xs
none_pass test [] e = All-nil (λ x. test x ≡ false)
none_pass test (x ∷ xs) e = let parts = or_parts (test x) (list_any test xs) e in All-cons (λ y. test y ≡ false) x xs parts.0 (none_pass test xs parts.1)

-- of that variable, and not the same literal
other_literal : (l n : Literal) → is_same l n ≡ false → n.var ≡ l.var → n ≡ opposite l
other_literal l n different same = literal_same n (opposite l) same (by n.neg l.neg (no_sign (l.var == n.var) (beq l.neg n.neg) different (eq-eqb l.var n.var (sym same))))
  where
    no_sign : (a b : Bool) → (a && b) ≡ false → a ≡ true → b ≡ false
    no_sign true b e is = e
    no_sign false b e is = cc

    by : (x y : Bool) → beq y x ≡ false → x ≡ not y
    by true true e = cc
    by true false e = refl
    by false true e = refl
    by false false e = cc

-- where a literal doesn't occur, its variable is as its opposite
pub only_opposite : (l : Literal) (ts : Terms) → occurs l ts ≡ false → OnlyAs (opposite l) ts
only_opposite l ts none k d short same = other_literal l (get_or ts k d).0 (none_pass (λ t. is_same l t.0) ts none k d short) same

opposite_twice : (l : Literal) → opposite (opposite l) ≡ l
opposite_twice l = ap (λ (b : Bool). record { var = l.var; neg = b }) (by l.neg)
  where
    by : (b : Bool) → not (not b) ≡ b
    by true = refl
    by false = refl

pub only_itself : (l : Literal) (ts : Terms) → occurs (opposite l) ts ≡ false → OnlyAs l ts
only_itself l ts none = subst (λ (m : Literal). OnlyAs m ts) (opposite_twice l) (only_opposite (opposite l) ts none)

-- a literal that can be fixed
pub fixed_rows : (p : ProblemValue) (l : Literal) → can_fix p l ≡ true → All (λ c. OnlyAs (opposite l) c.terms) p.rows
fixed_rows p l can k d short =
    let parts = and_parts (not (in_rows p l)) (not (in_costs p (opposite l))) can in
    only_opposite l (get_or p.rows k d).terms (none_pass (λ (c : ConstraintValue). occurs l c.terms) p.rows (not_true (in_rows p l) parts.0) k d short)
  where
    not_true : (b : Bool) → not b ≡ true → b ≡ false
    not_true true e = cc
    not_true false e = refl

pub fixed_costs : (p : ProblemValue) (l : Literal) → can_fix p l ≡ true → All (λ r. OnlyAs l r.terms) p.costs
fixed_costs p l can k d short =
    let parts = and_parts (not (in_rows p l)) (not (in_costs p (opposite l))) can in
    only_itself l (get_or p.costs k d).terms (none_pass (λ (r : CostRowValue). occurs (opposite l) r.terms) p.costs (not_true (in_costs p (opposite l)) parts.1) k d short)
  where
    not_true : (b : Bool) → not b ≡ true → b ≡ false
    not_true true e = cc
    not_true false e = refl

-- ---- coefficients

-- the variable is among the terms
pub coefficient_some : (var : ℕ) (ts : Terms) → All (λ t. 0 < t.1) ts → list_any (λ t. t.0.var == var) ts ≡ true → 0 < coefficient var ts
coefficient_some var [] positive e = cc
coefficient_some var (t ∷ ts) positive e =
    let cons = sum_by-cons (coefficient_in var) t ts in
    by (t.0.var == var) e (All-head (λ u. 0 < u.1) t ts positive) (coefficient_some var ts (All-tail (λ u. 0 < u.1) t ts positive)) cons
  where
    by : (b : Bool) → (b || list_any (λ u. u.0.var == var) ts) ≡ true → 0 < t.1 → (list_any (λ u. u.0.var == var) ts ≡ true → 0 < coefficient var ts) → coefficient var (t ∷ ts) ≡ (if b then t.1 else 0) + coefficient var ts → 0 < coefficient var (t ∷ ts)
    by true is here rest cons = omega arith
    by false is here rest cons = let more = rest is in omega arith

pub has_variable : (l : Literal) (ts : Terms) → list_any (λ n. has_image (falsified l) n.var) (literals ts) ≡ true → list_any (λ t. t.0.var == l.var) ts ≡ true
has_variable l [] e = e
has_variable l (t ∷ ts) e = by (l.var == t.0.var) (t.0.var == l.var) (λ is. eq-eqb t.0.var l.var (sym (eqb-true l.var t.0.var is))) (has_variable l ts) e
  where
    by : (a b : Bool) → (a ≡ true → b ≡ true) → (list_any (λ n. has_image (falsified l) n.var) (literals ts) ≡ true → list_any (λ u. u.0.var == l.var) ts ≡ true) → ((a || false) || list_any (λ n. has_image (falsified l) n.var) (literals ts)) ≡ true → (b || list_any (λ u. u.0.var == l.var) ts) ≡ true
    by true b one rest e = ap (λ (c : Bool). c || list_any (λ u. u.0.var == l.var) ts) (one refl)
    by false true one rest e = refl
    by false false one rest e = rest e

pub touched_some : (l : Literal) (c : ConstraintValue) → All (λ t. 0 < t.1) c.terms → touches (falsified l) c ≡ true → 0 < coefficient l.var c.terms
touched_some l c positive touched = coefficient_some l.var c.terms positive (has_variable l c.terms touched)

same_some : (l : Literal) (ts : Terms) → All (λ t. 0 < t.1) ts → occurs l ts ≡ true → 0 < coefficient l.var ts
same_some l ts positive has = coefficient_some l.var ts positive (more ts has)
  where
    more : (us : Terms) → occurs l us ≡ true → list_any (λ t. t.0.var == l.var) us ≡ true
    more [] e = e
    more (u ∷ us) e = by (l.var == u.0.var) (beq l.neg u.0.neg) (u.0.var == l.var) (λ is. eq-eqb u.0.var l.var (sym (eqb-true l.var u.0.var is))) (more us) e
      where
        by : (a s b : Bool) → (a ≡ true → b ≡ true) → (occurs l us ≡ true → list_any (λ t. t.0.var == l.var) us ≡ true) → ((a && s) || occurs l us) ≡ true → (b || list_any (λ t. t.0.var == l.var) us) ≡ true
        by true s b one rest e = ap (λ (c : Bool). c || list_any (λ t. t.0.var == l.var) us) (one refl)
        by false s true one rest e = refl
        by false s false one rest e = rest e

-- a literal that costs something
pub costs_some : (l : Literal) (rows : List CostRowValue) → All (λ r. All (λ t. 0 < t.1) r.terms) rows → list_any (λ r. occurs l r.terms) rows ≡ true → 0 < sum_by (λ r. coefficient l.var r.terms) rows
costs_some l [] positive has = cc
costs_some l (r ∷ rows) positive has =
    let cons = sum_by-cons (λ (q : CostRowValue). coefficient l.var q.terms) r rows in
    by (occurs l r.terms) refl (costs_some l rows (All-tail (λ q. All (λ t. 0 < t.1) q.terms) r rows positive)) has cons
  where
    by : (b : Bool) → occurs l r.terms ≡ b → (list_any (λ q. occurs l q.terms) rows ≡ true → 0 < sum_by (λ q. coefficient l.var q.terms) rows) → (b || list_any (λ q. occurs l q.terms) rows) ≡ true → sum_by (λ q. coefficient l.var q.terms) (r ∷ rows) ≡ coefficient l.var r.terms + sum_by (λ q. coefficient l.var q.terms) rows → 0 < sum_by (λ q. coefficient l.var q.terms) (r ∷ rows)
    by true is rest e cons = let here = same_some l r.terms (All-head (λ q. All (λ t. 0 < t.1) q.terms) r rows positive) is in omega arith
    by false is rest e cons = let more = rest e in omega arith

-- something is left of a row that has the variable as the opposite literal, with a coefficient below the degree
pub left_open : (l : Literal) (degree : ℕ) (ts : Terms) → OnlyAs (opposite l) ts → list_any (λ t. t.0.var == l.var) ts ≡ true → coefficient l.var ts < degree
    → list_any (λ t. is_same (opposite l) t.0 && nat_lt t.1 degree) ts ≡ true
left_open l degree [] only has below = cc
left_open l degree (t ∷ ts) only has below =
    let cons = sum_by-cons (coefficient_in l.var) t ts in
    by (t.0.var == l.var) refl cons has
    (λ some less. left_open l degree ts (All-tail (λ u. u.0.var ≡ l.var → u.0 ≡ opposite l) t ts only) some less)
  where
    sign : (b : Bool) → beq b b ≡ true
    sign true = refl
    sign false = refl

    here : t.0 ≡ opposite l → nat_lt t.1 degree ≡ true → (is_same (opposite l) t.0 && nat_lt t.1 degree) ≡ true
    here same less = ap (λ (m : Literal). is_same (opposite l) m && nat_lt t.1 degree) same
        ∙ and_from (is_same (opposite l) (opposite l)) (nat_lt t.1 degree) (and_from (l.var == l.var) (beq (not l.neg) (not l.neg)) (eq-eqb l.var l.var refl) (sign (not l.neg))) less

    by : (b : Bool) → (t.0.var == l.var) ≡ b → coefficient l.var (t ∷ ts) ≡ (if b then t.1 else 0) + coefficient l.var ts → (b || list_any (λ u. u.0.var == l.var) ts) ≡ true
        → (list_any (λ u. u.0.var == l.var) ts ≡ true → coefficient l.var ts < degree → list_any (λ u. is_same (opposite l) u.0 && nat_lt u.1 degree) ts ≡ true) → list_any (λ u. is_same (opposite l) u.0 && nat_lt u.1 degree) (t ∷ ts) ≡ true
    by true is cons some rest = or_left (is_same (opposite l) t.0 && nat_lt t.1 degree) (list_any (λ u. is_same (opposite l) u.0 && nat_lt u.1 degree) ts)
        (here (All-head (λ u. u.0.var ≡ l.var → u.0 ≡ opposite l) t ts only (eqb-true t.0.var l.var is)) (lt-ltb t.1 degree (omega arith)))
    by false is cons some rest = or_right (is_same (opposite l) t.0 && nat_lt t.1 degree) (list_any (λ u. is_same (opposite l) u.0 && nat_lt u.1 degree) ts) (rest some (omega arith))
