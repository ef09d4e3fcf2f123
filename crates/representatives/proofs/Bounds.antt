-- Bounds of costs.
use Rattle.std.specs.Prelude.{◌≡◌, ◌↔◌, ℕ, ◌<◌, ◌≤◌, ◌-◌, ◌^◌, Bool, true, false, if◌then◌else◌, List, [], ◌∷◌, ◌++◌, map, ℤ, pos, neg_ℤ, ◌-ℤ◌, ◌≤ℤ◌, unsigned_abs, All, IfOk, Result, Ok, Err, refl}
use Rattle.std.proofs.Common.{sym, subst, ◌∙◌, arith}
use Rattle.std.proofs.lemmas.Int.{ints, clamps}
use Rattle.std.proofs.lemmas.List.Elements.{All-nil, All-map}
use Rattle.std.proofs.lemmas.List.Sums.{sum_by-cons}
use Rattle.scut_base.specs.Literal.{Literal}
use Rattle.scut_base.specs.Assignment.{lit_true}
use Rattle.scut_base.proofs.Lists.{sum_by_same}
use Rattle.instance.specs.Meaning.{terms_value}
use Rattle.instance.specs.Shape.{terms_magnitude}
use Rattle.instance_normal.specs.Fitting.{Fits}
use Rattle.instance_normal.proofs.Members.{all_both}
use Rattle.instance_normal.proofs.Sizes.{spread, value_small}
use Rattle.instance_normal.proofs.Truth.{sum_value-terms_value}
use Rattle.pb_lin.specs.Constraint.{ConstraintValue, Holds, IsNormal, IsVariable, TermsUpTo, term_value, total, value}
use Rattle.pb_lin.specs.CostRow.{CostRowValue, IsCostRow, row_cost}
use Rattle.pb_lin.specs.Cover.{coefficient, greatest_excess}
use Rattle.pb_lin.specs.NormalForm.{IsNormalForm, sum_value}
use Rattle.pb_lin.proofs.Covers.{excess_reached}
use Rattle.pb_lin.proofs.Excess.{HasExcess-same}
use Rattle.pb_lin.proofs.Laws.{Holds-excess}
use Rattle.pb_lin.proofs.Variables.{normal_form_upto}
use Rattle.representatives.specs.Bounded.{AreCostBounds, IsCostBound}

-- a bound holds exactly where the cost is at most the number
pub bound_law : (r : CostRowValue) (u : ℤ) (c : ConstraintValue) → IsCostBound r u c → (a : List Bool) → (Holds a c ↔ (row_cost a r ≤ℤ u))
bound_law r u c is a =
    let holds = Holds-excess c (λ b. u -ℤ row_cost b r) is.excess a in
    ((λ h. let k = holds.0 h in omega (arith, ints)), (λ h. holds.1 (omega (arith, ints))))

-- ---- as the normal form of a sum

-- the terms with coefficients of the other sign
abbrev pub lowered : List (Literal × ℕ) → List (ℤ × Literal)
lowered terms = map (λ t. (neg_ℤ (pos t.1), t.0)) terms

lowered_terms_value : (a : List Bool) (terms : List (Literal × ℕ)) → terms_value a (lowered terms) ≡ neg_ℤ (pos (value a terms))
lowered_terms_value a [] = omega (arith, ints)
lowered_terms_value a (t ∷ terms) =
    let rest = lowered_terms_value a terms in
    let sum = sum_by-cons (term_value a) t terms in
    let one = by (lit_true a t.0) in
    omega (arith, ints)
  where
    by : (x : Bool) → (if x then neg_ℤ (pos t.1) else pos 0) ≡ neg_ℤ (pos (if x then t.1 else 0))
    by true = refl
    by false = omega (arith, ints)

lowered_value : (a : List Bool) (terms : List (Literal × ℕ)) → sum_value a (lowered terms) ≡ neg_ℤ (pos (value a terms))
lowered_value a terms = sum_value-terms_value a (lowered terms) ∙ lowered_terms_value a terms

pub lowered_magnitude : (terms : List (Literal × ℕ)) → terms_magnitude (lowered terms) ≡ total terms
lowered_magnitude [] = refl
lowered_magnitude (t ∷ terms) =
    let rest = lowered_magnitude terms in
    let left = sum_by-cons (λ (u : ℤ × Literal). unsigned_abs u.0) (neg_ℤ (pos t.1), t.0) (lowered terms) in
    let right = sum_by-cons (λ (u : Literal × ℕ). u.1) t terms in
    omega (arith, ints)

same_excess : (r : CostRowValue) (u : ℤ) (a : List Bool) → sum_value a (lowered r.terms) -ℤ (r.offset -ℤ u) ≡ u -ℤ row_cost a r
same_excess r u a = let sum = lowered_value a r.terms in omega (arith, ints)

bound_from_form : (r : CostRowValue) (u : ℤ) (c : ConstraintValue) → IsNormal c.terms c.degree → IsNormalForm c (lowered r.terms) (r.offset -ℤ u) → IsCostBound r u c
bound_from_form r u c normal form = record {
  normal = normal;
  excess = HasExcess-same c (λ a. sum_value a (lowered r.terms) -ℤ (r.offset -ℤ u)) (λ a. u -ℤ row_cost a r) form (same_excess r u);
}

-- the same of a constraint that may be made
pub bound_if_form : {E : Type 0} (made : Result ConstraintValue E) (r : CostRowValue) (u : ℤ) (terms : List (ℤ × Literal)) (least : ℤ) → terms ≡ lowered r.terms → least ≡ r.offset -ℤ u → IfOk made (λ c. IsNormal c.terms c.degree) → IfOk made (λ c. IsNormalForm c terms least) → IfOk made (IsCostBound r u)
bound_if_form (Ok c) r u terms least same bound normal form = bound_from_form r u c normal (subst (λ (ts : List (ℤ × Literal)). IsNormalForm c ts (r.offset -ℤ u)) same (subst (λ (z : ℤ). IsNormalForm c terms z) bound form))
bound_if_form (Err e) r u terms least same bound normal form = form

form_from_bound : (r : CostRowValue) (u : ℤ) (c : ConstraintValue) → IsCostBound r u c → IsNormalForm c (lowered r.terms) (r.offset -ℤ u)
form_from_bound r u c is = HasExcess-same c (λ a. u -ℤ row_cost a r) (λ a. sum_value a (lowered r.terms) -ℤ (r.offset -ℤ u)) is.excess (λ a. sym (same_excess r u a))

-- ---- how large it is

no_terms : IsNormal [] 0
no_terms = record { merged = record { positive = All-nil (λ (t : Literal × ℕ). 0 < t.1); from_one = All-nil (λ (t : Literal × ℕ). 0 < t.0.var); rising = λ i j d less short. absurd (omega arith) }; small = omega arith }

-- the normal form of a sum with a bound of another size is within the limits
form_fits : (n : ℕ) (terms : List (ℤ × Literal)) (bound : ℤ) (c : ConstraintValue) → IsNormal c.terms c.degree → IsNormalForm c terms bound → terms_magnitude terms < 2 ^ 63 → unsigned_abs bound < 2 ^ 64 → All (λ t. IsVariable n t.1.var) terms → Fits n c
form_fits n terms bound c normal form short low upto =
    let high = excess_reached c.terms [] c.degree 0 normal no_terms in
    let none = excess_reached [] c.terms 0 c.degree no_terms normal in
    let most : greatest_excess c.terms [] ≡ total c.terms = sum_by_same (λ (t : Literal × ℕ). t.1 - coefficient [] t.0) (λ (t : Literal × ℕ). t.1) (λ t. omega arith) c.terms in
    let at_high = form.same high.0 in
    let at_low = form.same none.0 in
    let sums = spread high.0 none.0 terms in
    let bounds = value_small none.0 terms in
    let high_sum = sum_value-terms_value high.0 terms in
    let low_sum = sum_value-terms_value none.0 terms in
    record {
      upto = normal_form_upto c terms bound n normal form upto;
      small =
          let degree = form.degree in
          omega (arith, ints, clamps, high.1, none.1, most);
    }

pub bound_fits : (n : ℕ) (r : CostRowValue) (u : ℤ) (c : ConstraintValue) → IsCostRow r.terms r.offset → TermsUpTo n r.terms → unsigned_abs u < 2 ^ 63 → IsCostBound r u c → Fits n c
bound_fits n r u c row upto small is =
    form_fits n (lowered r.terms) (r.offset -ℤ u) c is.normal (form_from_bound r u c is) (omega (arith, lowered_magnitude r.terms, row.small))
    (let low = row.least in omega (arith, ints))
    (All-map (λ (t : ℤ × Literal). IsVariable n t.1.var) (λ (t : Literal × ℕ). (neg_ℤ (pos t.1), t.0)) r.terms
    (all_both (λ (t : Literal × ℕ). 0 < t.0.var) (λ (t : Literal × ℕ). t.0.var ≤ n) (λ (t : Literal × ℕ). IsVariable n t.0.var) r.terms (λ t p q. (p, q)) row.from_one upto))

-- ---- one bound more

pub bounds_push : (rs : List CostRowValue) (us : List ℤ) (cs : List ConstraintValue) (r : CostRowValue) (u : ℤ) (c : ConstraintValue) → AreCostBounds rs us cs → IsCostBound r u c → AreCostBounds (rs ++ r ∷ []) (us ++ u ∷ []) (cs ++ c ∷ [])
bounds_push [] [] [] r u c are is = (is, tt)
bounds_push [] [] (d ∷ cs) r u c are is = absurd are
bounds_push [] (w ∷ us) cs r u c are is = absurd are
bounds_push (s ∷ rs) [] cs r u c are is = absurd are
bounds_push (s ∷ rs) (w ∷ us) [] r u c are is = absurd are
bounds_push (s ∷ rs) (w ∷ us) (d ∷ cs) r u c are is = (are.0, bounds_push rs us cs r u c are.1 is)
