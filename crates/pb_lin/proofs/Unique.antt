-- Terms in normal form are fixed by their values.
use Rattle.std.proofs.Common.{◌≡◌, ◌≢◌, ◌⊎◌, ℕ, ◌+◌, ◌-◌, ◌<◌, ◌≤◌, ◌==◌, Bool, true, false, if◌then◌else◌, List, [], ◌∷◌, get_or, arith, ⊎_elim, sym, ap, ◌∙◌, refl, ℤ, pos, negsuc, ◌-ℤ◌}
use Rattle.std.proofs.Math.Bool.{beq}
use Rattle.std.specs.List.{All, AllPairs}
use Rattle.std.specs.Int.{int_max}
use Rattle.std.proofs.lemmas.Int.{ints, clamps}
use Rattle.std.proofs.lemmas.Bool.{cases_Bool, cases_eq, cases_order, and_left, ne_eqb, cond-false}
use Rattle.std.proofs.lemmas.List.Elements.{All-head, All-tail, All-cons, All-weaker}
use Rattle.std.proofs.lemmas.List.Sums.{sum_by-cons, get_or-le-sum_by}
use Rattle.scut_base.specs.Literal.{Literal, is_same}
use Rattle.pb_lin.specs.Constraint.{ConstraintValue, IsNormal, value}
use Rattle.pb_lin.specs.NormalForm.{HasExcess}
use Rattle.pb_lin.specs.Cover.{coefficient, greatest_excess}
use Rattle.pb_lin.proofs.Covers.{Terms, coefficient_of_term, excess_reached, is_same-true, term_of}
use Rattle.scut_base.proofs.Lists.{sum_by_zero}
use Rattle.pb_lin.proofs.Merges.{rising_head, rising_tail}

-- no literal of a variable below all
coefficient_below : (terms : Terms) (l : Literal) → All (λ t. l.var < t.0.var) terms → coefficient terms l ≡ 0
coefficient_below terms l above = sum_by_zero (λ t. if is_same t.0 l then t.1 else 0) terms (λ k d short.
    let x = (get_or terms k d).0 in
    let h = above k d short in
    cond-false (is_same x l) (get_or terms k d).1 0 (and_left (x.var == l.var) (beq x.neg l.neg) (ne_eqb x.var l.var (λ e. omega arith))))

coefficient-cons : (t : Literal × ℕ) (terms : Terms) (l : Literal) → coefficient (t ∷ terms) l ≡ (if is_same t.0 l then t.1 else 0) + coefficient terms l
coefficient-cons t terms l = sum_by-cons (λ r. if is_same r.0 l then r.1 else 0) t terms

first_coefficient : (t : Literal × ℕ) (terms : Terms) → AllPairs (λ x y. x.0.var < y.0.var) (t ∷ terms) → coefficient (t ∷ terms) t.0 ≡ t.1
first_coefficient t terms up = coefficient_of_term (t ∷ terms) up 0 t (omega arith)

-- positive terms of rising variables are fixed by the coefficients of the literals
pub same_terms : (xs ys : Terms) → AllPairs (λ x y. x.0.var < y.0.var) xs → AllPairs (λ x y. x.0.var < y.0.var) ys → All (λ t. 0 < t.1) xs → All (λ t. 0 < t.1) ys → ((l : Literal) → coefficient xs l ≡ coefficient ys l) → xs ≡ ys
same_terms [] [] ux uy px py same = refl
same_terms [] (y ∷ ys) ux uy px py same =
    let here = same y.0 in
    let is = first_coefficient y ys uy in
    let positive = All-head (λ t. 0 < t.1) y ys py in
    absurd (omega arith)
same_terms (x ∷ xs) [] ux uy px py same =
    let here = same x.0 in
    let is = first_coefficient x xs ux in
    let positive = All-head (λ t. 0 < t.1) x xs px in
    absurd (omega arith)
same_terms (x ∷ xs) (y ∷ ys) ux uy px py same =
    let first : x ≡ y = first_same in
    let rest = same_terms xs ys (rising_tail x xs ux) (rising_tail y ys uy) (All-tail (λ t. 0 < t.1) x xs px) (All-tail (λ t. 0 < t.1) y ys py) (λ l.
    let here = same l in
    let left = coefficient-cons x xs l in
    let right = coefficient-cons y ys l in
    let one : (if is_same x.0 l then x.1 else 0) ≡ (if is_same y.0 l then y.1 else 0) = ap (λ (t : Literal × ℕ). if is_same t.0 l then t.1 else 0) first in
    omega arith) in
    ap (λ (t : Literal × ℕ). t ∷ xs) first ∙ ap (λ (ts : Terms). y ∷ ts) rest
  where
    x_here : coefficient (x ∷ xs) x.0 ≡ x.1
    x_here = first_coefficient x xs ux

    y_here : coefficient (y ∷ ys) y.0 ≡ y.1
    y_here = first_coefficient y ys uy

    not_below : x.0.var < y.0.var → ⊥
    not_below h =
        let none = coefficient_below (y ∷ ys) x.0 (All-cons (λ t. x.0.var < t.0.var) y ys h (All-weaker (λ t. y.0.var < t.0.var) (λ t. x.0.var < t.0.var) (λ t k. omega arith) ys (rising_head y ys uy))) in
        let here = same x.0 in
        let positive = All-head (λ t. 0 < t.1) x xs px in
        omega (arith, x_here)

    not_above : y.0.var < x.0.var → ⊥
    not_above h =
        let none = coefficient_below (x ∷ xs) y.0 (All-cons (λ t. y.0.var < t.0.var) x xs h (All-weaker (λ t. x.0.var < t.0.var) (λ t. y.0.var < t.0.var) (λ t k. omega arith) xs (rising_head x xs ux))) in
        let here = same y.0 in
        let positive = All-head (λ t. 0 < t.1) y ys py in
        omega (arith, y_here)

    same_var : x.0.var ≡ y.0.var
    same_var = ⊎_elim (λ (e : x.0.var ≡ y.0.var). e) (λ (o : (x.0.var < y.0.var) ⊎ (y.0.var < x.0.var)). absurd (⊎_elim not_below not_above o)) (cases_order x.0.var y.0.var)

    same_first_literal : y.0 ≡ x.0
    same_first_literal = ⊎_elim (λ (e : is_same y.0 x.0 ≡ true). is_same-true y.0 x.0 e) (λ (n : is_same y.0 x.0 ≡ false).
        let none = coefficient_below ys x.0 (All-weaker (λ t. y.0.var < t.0.var) (λ t. x.0.var < t.0.var) (λ t k. omega (arith, same_var)) ys (rising_head y ys uy)) in
        let cons = coefficient-cons y ys x.0 in
        let zero : (if is_same y.0 x.0 then y.1 else 0) ≡ 0 = cond-false (is_same y.0 x.0) y.1 0 n in
        let here = same x.0 in
        let positive = All-head (λ t. 0 < t.1) x xs px in
        absurd (omega (arith, x_here))) (cases_Bool (is_same y.0 x.0))

    first_same : x ≡ y
    first_same =
        let here = same x.0 in
        let moved : coefficient (y ∷ ys) x.0 ≡ coefficient (y ∷ ys) y.0 = ap (coefficient (y ∷ ys)) (sym same_first_literal) in
        let number : x.1 ≡ y.1 = omega (arith, x_here, y_here) in
        ap (λ (l : Literal). let t : Literal × ℕ = (l, x.1) in t) (sym same_first_literal) ∙ ap (λ (n : ℕ). let t : Literal × ℕ = (y.0, n) in t) number

-- where nothing is gained, no coefficient is larger
coefficient-le : (xs ys : Terms) → AllPairs (λ x y. x.0.var < y.0.var) xs → greatest_excess xs ys ≡ 0 → (l : Literal) → coefficient xs l ≤ coefficient ys l
coefficient-le xs ys up none l = ⊎_elim (λ (zero : coefficient xs l ≡ 0). omega arith) (λ (some : coefficient xs l ≢ 0).
    let found = term_of xs l (omega arith) in
    let is = coefficient_of_term xs up found.0 found.1 found.2 in
    let gained = get_or-le-sum_by (λ (t : Literal × ℕ). t.1 - coefficient ys t.0) xs found.0 found.1 found.2 in
    let here = ap (coefficient xs) found.3 in
    let there = ap (coefficient ys) found.3 in
    omega arith) (cases_eq (coefficient xs l) 0)

pub unique : (c d : ConstraintValue) → IsNormal c.terms c.degree → IsNormal d.terms d.degree → (m n : ℕ) → ((a : List Bool) → value a c.terms + m ≡ value a d.terms + n) → (c.terms ≡ d.terms) × (m ≡ n)
unique c d nc nd m n same =
    let right = excess_reached c.terms d.terms c.degree d.degree nc nd in
    let left = excess_reached d.terms c.terms d.degree c.degree nd nc in
    let r = right.1 in
    let l = left.1 in
    let sr = same right.0 in
    let sl = same left.0 in
    let no_gain : greatest_excess c.terms d.terms ≡ 0 = omega arith in
    let no_loss : greatest_excess d.terms c.terms ≡ 0 = omega arith in (
      same_terms c.terms d.terms nc.merged.rising nd.merged.rising nc.merged.positive nd.merged.positive (λ k.
          let below = coefficient-le c.terms d.terms nc.merged.rising no_gain k in
          let above = coefficient-le d.terms c.terms nd.merged.rising no_loss k in
          omega arith),
      omega arith,
    )

-- ---- the same excess

abbrev HasLeast : ConstraintValue → (List Bool → ℤ) → ℤ → Type 0
HasLeast c excess least = ((a : List Bool) → pos (value a c.terms) -ℤ least ≡ excess a) × (pos c.degree ≡ int_max least (pos 0))

pub equal_from : (c d : ConstraintValue) → IsNormal c.terms c.degree → IsNormal d.terms d.degree → (m n : ℕ) → ((a : List Bool) → value a c.terms + m ≡ value a d.terms + n) → (m ≡ n → c.degree ≡ d.degree) → c ≡ d
equal_from c d nc nd m n same degrees =
    let is = unique c d nc nd m n same in
    ap (λ (ts : Terms). let r : ConstraintValue = record { terms = ts; degree = c.degree } in r) is.0
    ∙ ap (λ (k : ℕ). let r : ConstraintValue = record { terms = d.terms; degree = k } in r) (degrees is.1)

by_least : (c d : ConstraintValue) → IsNormal c.terms c.degree → IsNormal d.terms d.degree → (excess : List Bool → ℤ) (x y : ℤ) → HasLeast c excess x → HasLeast d excess y → c ≡ d
by_least c d nc nd excess (pos x) (pos y) hc hd =
    equal_from c d nc nd y x (λ a. let l = hc.0 a in let r = hd.0 a in omega (arith, ints)) (λ e. let l = hc.1 in let r = hd.1 in omega (arith, ints, clamps))
by_least c d nc nd excess (pos x) (negsuc y) hc hd =
    equal_from c d nc nd 0 (x + y + 1) (λ a. let l = hc.0 a in let r = hd.0 a in omega (arith, ints)) (λ e. absurd (omega arith))
by_least c d nc nd excess (negsuc x) (pos y) hc hd =
    equal_from c d nc nd (y + x + 1) 0 (λ a. let l = hc.0 a in let r = hd.0 a in omega (arith, ints)) (λ e. absurd (omega arith))
by_least c d nc nd excess (negsuc x) (negsuc y) hc hd =
    equal_from c d nc nd x y (λ a. let l = hc.0 a in let r = hd.0 a in omega (arith, ints)) (λ e. let l = hc.1 in let r = hd.1 in omega (arith, ints, clamps))

pub equal_excess : (c d : ConstraintValue) → IsNormal c.terms c.degree → IsNormal d.terms d.degree → (excess : List Bool → ℤ) → HasExcess c excess → HasExcess d excess → c ≡ d
equal_excess c d nc nd excess hc hd = by_least c d nc nd excess hc.least hd.least (hc.same, hc.degree) (hd.same, hd.degree)
