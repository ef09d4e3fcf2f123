-- How large the normal form of a sum is.
use Rattle.std.proofs.Common.{◌≡◌, ℕ, ◌-◌, ◌^◌, ◌<◌, ◌≤◌, Bool, true, false, List, [], ◌∷◌, ◌++◌, map, refl, sym, subst, append_assoc, ℤ, pos, ◌+ℤ◌, ◌≤ℤ◌, neg_ℤ, unsigned_abs, if◌then◌else◌, arith}
use Rattle.std.specs.Prelude.{All, OnOk, Result, Ok, Err}
use Rattle.std.specs.List.{AllZip}
use Rattle.std.proofs.lemmas.Int.{ints, clamps}
use Rattle.std.proofs.lemmas.List.Elements.{All-nil, All-map, All-push}
use Rattle.std.proofs.lemmas.List.Sums.{sum_by-cons}
use Rattle.std.proofs.lemmas.Slice.Zip.{all_zipped_more}
use Rattle.scut_base.specs.Literal.{Literal}
use Rattle.scut_base.specs.Assignment.{lit_true}
use Rattle.instance.specs.declared.row.Linear.{Linear}
use Rattle.instance.specs.declared.row.Rel.{Rel}
use Rattle.instance.specs.declared.row.Rel.TheVariants.{AtLeast, AtMost, Equal}
use Rattle.instance.specs.Shape.{TermsUpTo, terms_magnitude}
use Rattle.instance.specs.Meaning.{terms_value}
use Rattle.pb_lin.specs.Constraint.{ConstraintValue, IsNormal, IsVariable, total}
use Rattle.pb_lin.specs.Cover.{coefficient, greatest_excess}
use Rattle.pb_lin.specs.NormalForm.{IsNormalForm, magnitude}
use Rattle.pb_lin.proofs.Covers.{excess_reached}
use Rattle.scut_base.proofs.Lists.{sum_by_same}
use Rattle.pb_lin.proofs.Variables.{normal_form_upto}
use Rattle.instance_normal.specs.NormalForm.{RowSource, IsRowOf, at_least, at_most, sources_by, linear_sources}
use Rattle.instance_normal.specs.Fitting.{Fits}
use Rattle.instance_normal.proofs.Members.{all_both}
use Rattle.instance_normal.proofs.Truth.{sum_value-terms_value}

-- two values of a sum differ by no more than the magnitudes
pub spread : (a b : List Bool) (terms : List (ℤ × Literal)) → terms_value a terms ≤ℤ (terms_value b terms +ℤ pos (terms_magnitude terms))
spread a b [] = omega (arith, ints)
spread a b (t ∷ terms) =
    let rest = spread a b terms in
    let sum = sum_by-cons (λ (u : ℤ × Literal). unsigned_abs u.0) t terms in
    let one = by (lit_true a t.1) (lit_true b t.1) in
    omega (arith, ints)
  where
    by : (x y : Bool) → (if x then t.0 else pos 0) ≤ℤ ((if y then t.0 else pos 0) +ℤ pos (unsigned_abs t.0))
    by true true = omega (arith, ints)
    by true false = omega (arith, ints)
    by false true = omega (arith, ints)
    by false false = omega (arith, ints)

pub value_small : (a : List Bool) (terms : List (ℤ × Literal)) → unsigned_abs (terms_value a terms) ≤ terms_magnitude terms
value_small a [] = omega (arith, ints)
value_small a (t ∷ terms) =
    let rest = value_small a terms in
    let sum = sum_by-cons (λ (u : ℤ × Literal). unsigned_abs u.0) t terms in
    let one = by (lit_true a t.1) in
    omega (arith, ints)
  where
    by : (x : Bool) → unsigned_abs (if x then t.0 else pos 0) ≤ unsigned_abs t.0
    by true = omega (arith, ints)
    by false = omega (arith, ints)

no_terms : IsNormal [] 0
no_terms = record { merged = record { positive = All-nil (λ (t : Literal × ℕ). 0 < t.1); from_one = All-nil (λ (t : Literal × ℕ). 0 < t.0.var); rising = λ i j d less short. absurd (omega arith) }; small = omega arith }

-- the normal form of a small sum is within the limits
pub sum_fits : (n : ℕ) (terms : List (ℤ × Literal)) (bound : ℤ) (c : ConstraintValue) → IsNormal c.terms c.degree → IsNormalForm c terms bound → magnitude terms bound < 2 ^ 63 → All (λ t. 0 < t.1.var) terms → TermsUpTo n terms → Fits n c
sum_fits n terms bound c normal form short from_one upto =
    let high = excess_reached c.terms [] c.degree 0 normal no_terms in
    let low = excess_reached [] c.terms 0 c.degree no_terms normal in
    let most : greatest_excess c.terms [] ≡ total c.terms = sum_by_same (λ (t : Literal × ℕ). t.1 - coefficient [] t.0) (λ (t : Literal × ℕ). t.1) (λ t. omega arith) c.terms in
    let at_high = form.same high.0 in
    let at_low = form.same low.0 in
    let sums = spread high.0 low.0 terms in
    let bounds = value_small low.0 terms in
    let high_sum = sum_value-terms_value high.0 terms in
    let low_sum = sum_value-terms_value low.0 terms in
    record {
      upto = normal_form_upto c terms bound n normal form (all_both (λ t. 0 < t.1.var) (λ t. t.1.var ≤ n) (λ t. IsVariable n t.1.var) terms (λ t p q. (p, q)) from_one upto);
      small =
          let degree = form.degree in
          omega (arith, ints, clamps, high.1, low.1, most);
    }

-- ---- one row more

pub row_added : (ss : List RowSource) (s : RowSource) (old new : List ConstraintValue) (c : ConstraintValue) → AllZip IsRowOf ss old → IsRowOf s c → new ≡ old ++ c ∷ [] → AllZip IsRowOf (ss ++ s ∷ []) new
row_added ss s old new c zipped is pushed = subst (AllZip IsRowOf (ss ++ s ∷ [])) (sym pushed) (all_zipped_more IsRowOf ss old s c zipped is)

on_ok : {T E : Type 0} (r : Result T E) (P Q : Type 0) → (P → Q) → OnOk r P → OnOk r Q
on_ok (Ok x) P Q f p = f p
on_ok (Err e) P Q f p = p

by_relation : (ss : List RowSource) (row : Linear) (rel : Rel) (new : List ConstraintValue) → row.rel ≡ rel → AllZip IsRowOf (ss ++ sources_by rel row) new → AllZip IsRowOf (ss ++ linear_sources row) new
by_relation ss row rel new is zipped = subst (λ (r : Rel). AllZip IsRowOf (ss ++ sources_by r row) new) (sym is) zipped

-- the rows of a linear row, by its relation
pub least_added : {E : Type 0} (r : Result (Unit {0}) E) (row : Linear) (old new : List ConstraintValue) (c : ConstraintValue) → row.rel ≡ AtLeast → IsRowOf (at_least row) c → OnOk r (new ≡ old ++ c ∷ []) → OnOk r ((ss : List RowSource) → AllZip IsRowOf ss old → AllZip IsRowOf (ss ++ linear_sources row) new)
least_added r row old new c rel is pushed = on_ok r (new ≡ old ++ c ∷ []) ((ss : List RowSource) → AllZip IsRowOf ss old → AllZip IsRowOf (ss ++ linear_sources row) new) (λ p ss zipped. by_relation ss row AtLeast new rel (row_added ss (at_least row) old new c zipped is p)) pushed

pub most_added : {E : Type 0} (r : Result (Unit {0}) E) (row : Linear) (old new : List ConstraintValue) (c : ConstraintValue) → row.rel ≡ AtMost → IsRowOf (at_most row) c → OnOk r (new ≡ old ++ c ∷ []) → OnOk r ((ss : List RowSource) → AllZip IsRowOf ss old → AllZip IsRowOf (ss ++ linear_sources row) new)
most_added r row old new c rel is pushed = on_ok r (new ≡ old ++ c ∷ []) ((ss : List RowSource) → AllZip IsRowOf ss old → AllZip IsRowOf (ss ++ linear_sources row) new) (λ p ss zipped. by_relation ss row AtMost new rel (row_added ss (at_most row) old new c zipped is p)) pushed

pub both_added : {E : Type 0} (r : Result (Unit {0}) E) (row : Linear) (old mid new : List ConstraintValue) (c d : ConstraintValue) → row.rel ≡ Equal → IsRowOf (at_least row) c → IsRowOf (at_most row) d → mid ≡ old ++ c ∷ [] → OnOk r (new ≡ mid ++ d ∷ []) → OnOk r ((ss : List RowSource) → AllZip IsRowOf ss old → AllZip IsRowOf (ss ++ linear_sources row) new)
both_added r row old mid new c d rel first second least pushed = on_ok r (new ≡ mid ++ d ∷ []) ((ss : List RowSource) → AllZip IsRowOf ss old → AllZip IsRowOf (ss ++ linear_sources row) new) (λ p ss zipped. by_relation ss row Equal new rel (subst (λ (rs : List RowSource). AllZip IsRowOf rs new) (append_assoc ss (at_least row ∷ []) (at_most row ∷ [])) (row_added (ss ++ at_least row ∷ []) (at_most row) mid new d (row_added ss (at_least row) old mid c zipped first least) second p))) pushed

pub fits_added : {E : Type 0} (r : Result (Unit {0}) E) (P : ℕ → Type 0) (old new : List ConstraintValue) (c : ConstraintValue) → ((n : ℕ) → P n → Fits n c) → OnOk r (new ≡ old ++ c ∷ []) → OnOk r ((n : ℕ) → P n → All (Fits n) old → All (Fits n) new)
fits_added r P old new c fits pushed = on_ok r (new ≡ old ++ c ∷ []) ((n : ℕ) → P n → All (Fits n) old → All (Fits n) new) (λ p n within all. subst (All (Fits n)) (sym p) (All-push (Fits n) old c all (fits n within))) pushed

pub fits_both : {E : Type 0} (r : Result (Unit {0}) E) (P : ℕ → Type 0) (old mid new : List ConstraintValue) (c d : ConstraintValue) → ((n : ℕ) → P n → Fits n c) → ((n : ℕ) → P n → Fits n d) → mid ≡ old ++ c ∷ [] → OnOk r (new ≡ mid ++ d ∷ []) → OnOk r ((n : ℕ) → P n → All (Fits n) old → All (Fits n) new)
fits_both r P old mid new c d first second least pushed = on_ok r (new ≡ mid ++ d ∷ []) ((n : ℕ) → P n → All (Fits n) old → All (Fits n) new) (λ p n within all. subst (All (Fits n)) (sym p) (All-push (Fits n) mid d (subst (All (Fits n)) (sym least) (All-push (Fits n) old c all (first n within))) (second n within))) pushed

-- negated terms have the same magnitudes and variables
pub negated_magnitude : (terms : List (ℤ × Literal)) → terms_magnitude (map (λ t. (neg_ℤ t.0, t.1)) terms) ≡ terms_magnitude terms
negated_magnitude [] = refl
negated_magnitude (t ∷ terms) = omega (arith, ints, negated_magnitude terms, sum_by-cons (λ (u : ℤ × Literal). unsigned_abs u.0) t terms, sum_by-cons (λ (u : ℤ × Literal). unsigned_abs u.0) (neg_ℤ t.0, t.1) (map (λ u. (neg_ℤ u.0, u.1)) terms))

pub negated_upto : (n : ℕ) (terms : List (ℤ × Literal)) → TermsUpTo n terms → TermsUpTo n (map (λ t. (neg_ℤ t.0, t.1)) terms)
negated_upto n terms upto = All-map (λ (t : ℤ × Literal). t.1.var ≤ n) (λ (t : ℤ × Literal). (neg_ℤ t.0, t.1)) terms upto
