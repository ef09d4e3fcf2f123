-- Which variables a left side has, by its values.
use Rattle.std.proofs.Common.{◌≡◌, ◌≢◌, ℕ, zero, suc, ◌+◌, ◌-◌, ◌<◌, ◌≤◌, ◌==◌, Bool, true, false, not, if◌then◌else◌, List, [], ◌∷◌, length, get_or, set, map, fold, replicate, arith, ⊎_elim, ap, sym, ◌∙◌, refl, ℤ, pos, ◌+ℤ◌, ◌-ℤ◌}
use Rattle.std.specs.List.{All}
use Rattle.std.proofs.lemmas.Bool.{cases_lt}
use Rattle.std.proofs.lemmas.Int.{ints}
use Rattle.std.proofs.lemmas.List.{get_or-replicate, get_or-set_other, get_or-set_same, length-replicate, get_or_past}
use Rattle.std.proofs.lemmas.List.Elements.{All-head, All-tail}
use Rattle.std.proofs.lemmas.List.Sums.{sum_by-cons}
use Rattle.scut_base.specs.Literal.{Literal}
use Rattle.scut_base.specs.Assignment.{value_of, lit_true}
use Rattle.pb_lin.specs.Constraint.{ConstraintValue, IsMerged, IsNormal, IsVariable, TermsUpTo, UpTo, term_value, value}
use Rattle.pb_lin.specs.NormalForm.{HasExcess, IsNormalForm, signed_value, sum_value}
use Rattle.pb_lin.specs.declared.witness.Image.{Image}
use Rattle.pb_lin.specs.declared.witness.Image.TheVariants.{Zero, One, Lit}
use Rattle.pb_lin.specs.Substitution.{Images, ImageUpTo, IsUnder, image_true, variable_under, true_under, value_under}
use Rattle.scut_base.proofs.Lists.{sum_by_same_in}

-- the assignments give the variables 1 to n the same values
abbrev pub AgreeUpTo : ℕ → List Bool → List Bool → Type 0
AgreeUpTo n a b = (v : ℕ) → IsVariable n v → value_of a v ≡ value_of b v

lit_true-agree : (a b : List Bool) (l : Literal) → value_of a l.var ≡ value_of b l.var → lit_true a l ≡ lit_true b l
lit_true-agree a b l e = ap (λ (v : Bool). if l.neg then not v else v) e

term_value-agree : (a b : List Bool) (t : Literal × ℕ) → value_of a t.0.var ≡ value_of b t.0.var → term_value a t ≡ term_value b t
term_value-agree a b t e = ap (λ (v : Bool). if v then t.1 else 0) (lit_true-agree a b t.0 e)

pub value-agree : (n : ℕ) (terms : List (Literal × ℕ)) → All (λ t. 0 < t.0.var) terms → TermsUpTo n terms → (a b : List Bool) → AgreeUpTo n a b → value a terms ≡ value b terms
value-agree n terms from_one upto a b agree =
    sum_by_same_in (term_value a) (term_value b) terms (λ k d short. term_value-agree a b (get_or terms k d) (agree (get_or terms k d).0.var (from_one k d short, upto k d short)))

-- ---- assignments that differ in one variable

value-flip : (a b : List Bool) (terms : List (Literal × ℕ)) (k : ℕ) (d : Literal × ℕ) → IsMerged terms → k < length terms → ((v : ℕ) → 0 < v → v ≢ (get_or terms k d).0.var → value_of a v ≡ value_of b v) → value a terms + term_value b (get_or terms k d) ≡ value b terms + term_value a (get_or terms k d)
value-flip a b [] k d merged short same = absurd (omega arith)
value-flip a b (t ∷ ts) zero d merged short same =
    let left = sum_by-cons (term_value a) t ts in
    let right = sum_by-cons (term_value b) t ts in
    let rest = sum_by_same_in (term_value a) (term_value b) ts (λ j e h. let up = merged.rising 0 (suc j) e (omega arith) (omega arith) in
    term_value-agree a b (get_or ts j e) (same (get_or ts j e).0.var (merged.from_one (suc j) e (omega arith)) (λ i. omega arith))) in
    omega arith
value-flip a b (t ∷ ts) (suc k) d merged short same =
    let up : t.0.var < (get_or ts k d).0.var = merged.rising 0 (suc k) d (omega arith) short in
    let left = sum_by-cons (term_value a) t ts in
    let right = sum_by-cons (term_value b) t ts in
    let one = term_value-agree a b t (same t.0.var (All-head (λ s. 0 < s.0.var) t ts merged.from_one) (λ i. omega arith)) in
    let rest = value-flip a b ts k d (record {
      positive = All-tail (λ s. 0 < s.1) t ts merged.positive;
      from_one = All-tail (λ s. 0 < s.0.var) t ts merged.from_one;
      rising = λ i j e less within. merged.rising (suc i) (suc j) e (omega arith) (omega arith);
    }) (omega arith) same in
    omega arith

-- a term of a literal whose variable is false in the one and true in the other
differs : (neg : Bool) (n : ℕ) → 0 < n → (if (if neg then not false else false) then n else 0) ≢ (if (if neg then not true else true) then n else 0)
differs true n positive e = omega arith
differs false n positive e = omega arith

none_true : (n v : ℕ) → value_of (replicate n false) v ≡ false
none_true n v = ⊎_elim (λ (h : v - 1 < n). get_or-replicate n (v - 1) false false h) (λ (h : n ≤ v - 1). get_or_past (replicate n false) (v - 1) false (omega (arith, length-replicate n false))) (cases_lt (v - 1) n)

-- a left side whose values don't depend on variables above n has none
pub variables_bounded : (n : ℕ) (terms : List (Literal × ℕ)) → IsMerged terms → ((a b : List Bool) → AgreeUpTo n a b → value a terms ≡ value b terms) → TermsUpTo n terms
variables_bounded n terms merged same k d short = ⊎_elim (λ (h : n < (get_or terms k d).0.var). absurd (above h)) (λ (h : (get_or terms k d).0.var ≤ n). h) (cases_lt n (get_or terms k d).0.var)
  where
    above : n < (get_or terms k d).0.var → ⊥
    above h =
        let t = get_or terms k d in
        let v = (get_or terms k d).0.var in
        let a : List Bool = replicate v false in
        let b : List Bool = set a (v - 1) true in
        let long = length-replicate v false in
        let apart : (w : ℕ) → 0 < w → w ≢ v → value_of a w ≡ value_of b w = λ w from other. let ne : w - 1 ≢ v - 1 = λ e. other (omega arith) in sym (get_or-set_other a (v - 1) (w - 1) true false ne) in
        let flip = value-flip a b terms k d merged short apart in
        let agree = same a b (λ w is. apart w is.0 (λ e. let le = is.1 in omega arith)) in
        let here : value_of a v ≡ false = none_true v v in
        let there : value_of b v ≡ true = get_or-set_same a (v - 1) true false (omega arith) in
        let one : term_value a t ≡ (if (if t.0.neg then not false else false) then t.1 else 0) = ap (λ (x : Bool). if (if t.0.neg then not x else x) then t.1 else 0) here in
        let other : term_value b t ≡ (if (if t.0.neg then not true else true) then t.1 else 0) = ap (λ (x : Bool). if (if t.0.neg then not x else x) then t.1 else 0) there in
        differs t.0.neg t.1 (merged.positive k d short) (omega arith)

pub excess_variables : (c : ConstraintValue) (excess : List Bool → ℤ) (n : ℕ) → IsNormal c.terms c.degree → HasExcess c excess → ((a b : List Bool) → AgreeUpTo n a b → excess a ≡ excess b) → UpTo n c
excess_variables c excess n normal has same = variables_bounded n c.terms normal.merged (λ a b agree.
    let left = has.same a in
    let right = has.same b in
    let both = same a b agree in
    omega (arith, ints))

-- ---- sums

signed_values-agree : (n : ℕ) (terms : List (ℤ × Literal)) → All (λ t. IsVariable n t.1.var) terms → (a b : List Bool) → AgreeUpTo n a b → map (signed_value a) terms ≡ map (signed_value b) terms
signed_values-agree n [] upto a b agree = refl
signed_values-agree n (t ∷ ts) upto a b agree =
    ap (λ (x : ℤ). x ∷ map (signed_value a) ts) (ap (λ (v : Bool). if v then t.0 else pos 0) (lit_true-agree a b t.1 (agree t.1.var (All-head (λ s. IsVariable n s.1.var) t ts upto))))
    ∙ ap (λ (xs : List ℤ). signed_value b t ∷ xs) (signed_values-agree n ts (All-tail (λ s. IsVariable n s.1.var) t ts upto) a b agree)

pub normal_form_upto : (c : ConstraintValue) (terms : List (ℤ × Literal)) (degree : ℤ) (n : ℕ) → IsNormal c.terms c.degree → IsNormalForm c terms degree → All (λ t. IsVariable n t.1.var) terms → UpTo n c
normal_form_upto c terms degree n normal is upto =
    excess_variables c (λ a. sum_value a terms -ℤ degree) n normal is (λ a b agree. ap (λ (xs : List ℤ). fold (λ s x. s +ℤ x) (pos 0) xs -ℤ degree) (signed_values-agree n terms upto a b agree))

-- ---- substitutions

image_true-agree : (n : ℕ) (i : Image) → ImageUpTo n i → (a b : List Bool) → AgreeUpTo n a b → image_true a i ≡ image_true b i
image_true-agree n Zero upto a b agree = refl
image_true-agree n One upto a b agree = refl
image_true-agree n (Lit l) upto a b agree = lit_true-agree a b l (agree l.var upto)

variable_under-agree : (n : ℕ) (images : Images) → All (λ i. ImageUpTo n i.1) images → (a b : List Bool) → AgreeUpTo n a b → (v : ℕ) → IsVariable n v → variable_under images a v ≡ variable_under images b v
variable_under-agree n [] upto a b agree v is = agree v is
variable_under-agree n (i ∷ images) upto a b agree v is =
    let first = image_true-agree n i.1 (All-head (λ j. ImageUpTo n j.1) i images upto) a b agree in
    let rest = variable_under-agree n images (All-tail (λ j. ImageUpTo n j.1) i images upto) a b agree v is in
    ap (λ (x : Bool). if i.0 == v then x else variable_under images a v) first ∙ ap (λ (x : Bool). if i.0 == v then image_true b i.1 else x) rest

pub under_upto : (result c : ConstraintValue) (images : Images) (n : ℕ) → IsNormal result.terms result.degree → IsUnder result images c → All (λ t. IsVariable n t.0.var) c.terms → All (λ i. ImageUpTo n i.1) images → UpTo n result
under_upto result c images n normal is upto within =
    excess_variables result (λ a. pos (value_under images a c.terms) -ℤ pos c.degree) n normal is (λ a b agree.
    ap (λ (m : ℕ). pos m -ℤ pos c.degree)
    (sum_by_same_in (λ t. if true_under images a t.0 then t.1 else 0) (λ t. if true_under images b t.0 then t.1 else 0) c.terms (λ k d short.
    ap (λ (v : Bool). if (if (get_or c.terms k d).0.neg then not v else v) then (get_or c.terms k d).1 else 0) (variable_under-agree n images within a b agree (get_or c.terms k d).0.var (upto k d short)))))
