-- Where normal forms, restrictions and substitutions hold.
use Rattle.std.proofs.Common.{◌≡◌, ◌↔◌, ℕ, ◌+◌, ◌==◌, ◌&&◌, Bool, true, false, not, cond, if◌then◌else◌, List, [], ◌∷◌, get_or, filter, sum_by, arith, ⊎_elim, subst, sym, ap, ◌∙◌, refl, ℤ, pos, ◌-ℤ◌, ◌≤ℤ◌}
use Rattle.std.proofs.Math.Bool.{beq}
use Rattle.std.specs.List.{All}
use Rattle.std.proofs.lemmas.Int.{ints, clamps}
use Rattle.std.proofs.lemmas.Bool.{cases_Bool, and_parts, and_from, eqb-true}
use Rattle.std.proofs.lemmas.List.Folds.{Any-from_list_any, list_any_at}
use Rattle.std.proofs.lemmas.List.Sums.{sum_by-cons}
use Rattle.scut_base.specs.Literal.{Literal}
use Rattle.scut_base.specs.Assignment.{value_of, lit_true}
use Rattle.pb_lin.specs.Constraint.{ConstraintValue, Holds, Covers, Implies, term_value, value}
use Rattle.pb_lin.specs.NormalForm.{HasExcess, IsNormalForm, sum_value}
use Rattle.pb_lin.specs.Restriction.{is_set, is_among, met_value, restriction}
use Rattle.pb_lin.specs.Substitution.{Images, IsUnder, variable_under, true_under, value_under}
use Rattle.scut_base.proofs.Lists.{sum_by_same_in}
use Rattle.pb_lin.proofs.Covers.{is_same-true}

-- a constraint holds where its excess isn't below 0
pub Holds-excess : (c : ConstraintValue) (excess : List Bool → ℤ) → HasExcess c excess → (a : List Bool) → (Holds a c ↔ (pos 0 ≤ℤ excess a))
Holds-excess c excess has a =
    let same = has.same a in
    let degree = has.degree in
    ((λ h. omega (arith, ints, clamps)), (λ h. omega (arith, ints, clamps)))

pub Holds-normal_form : (c : ConstraintValue) (terms : List (ℤ × Literal)) (degree : ℤ) → IsNormalForm c terms degree → (a : List Bool) → (Holds a c ↔ (degree ≤ℤ sum_value a terms))
Holds-normal_form c terms degree is a =
    let holds = Holds-excess c (λ b. sum_value b terms -ℤ degree) is a in
    ((λ h. let k = holds.0 h in omega (arith, ints)), (λ h. holds.1 (omega (arith, ints))))

pub Implies-covers : (p q : ConstraintValue) → Covers p q → Implies p q
Implies-covers p q covers a holds = let h = covers a in omega arith

-- ---- substitutions

pub Holds-under : (result c : ConstraintValue) (images : Images) → IsUnder result images c → (a b : List Bool) → All (λ t. value_of b t.0.var ≡ variable_under images a t.0.var) c.terms → (Holds a result ↔ Holds b c)
Holds-under result c images is a b same =
    let holds = Holds-excess result (λ e. pos (value_under images e c.terms) -ℤ pos c.degree) is a in
    let values : value b c.terms ≡ value_under images a c.terms = sum_by_same_in (term_value b) (λ t. if true_under images a t.0 then t.1 else 0) c.terms (λ k d short.
    ap (λ (v : Bool). if (if (get_or c.terms k d).0.neg then not v else v) then (get_or c.terms k d).1 else 0) (same k d short)) in
    ((λ h. let k = holds.0 h in omega (arith, ints)), (λ h. holds.1 (omega (arith, ints))))

-- ---- restrictions

-- a literal of a given variable that isn't given is false
lost : (x y v : Bool) → beq x y ≡ false → (if x then not v else v) ≡ true → (if y then not v else v) ≡ false
lost true true v e h = cc
lost true false true e h = cc
lost true false false e h = refl
lost false true true e h = refl
lost false true false e h = cc
lost false false v e h = cc

-- of a term that is set (s), met (m) and true (v)
parts_cond : (s m v : Bool) (n : ℕ) → (s ≡ false → m ≡ false) → (m ≡ true → v ≡ true) → (s ≡ true → m ≡ false → v ≡ false) → (if v then n else 0) ≡ (if not s then (if v then n else 0) else 0) + (if m then n else 0)
parts_cond false true v n f g h = let e = f refl in cc
parts_cond false false v n f g h = omega arith
parts_cond true true true n f g h = omega arith
parts_cond true true false n f g h = let e = g refl in cc
parts_cond true false true n f g h = let e = h refl refl in cc
parts_cond true false false n f g h = omega arith

-- a term counts where it stays or is met
term_parts : (a : List Bool) (truths : List Literal) → All (λ l. lit_true a l ≡ true) truths → (t : Literal × ℕ) → term_value a t ≡ (if not (is_set truths t.0.var) then term_value a t else 0) + met_value truths t
term_parts a truths all t = parts_cond (is_set truths t.0.var) (is_among truths t.0) (lit_true a t.0) t.1 unset met false_else
  where
    unset : is_set truths t.0.var ≡ false → is_among truths t.0 ≡ false
    unset e = ⊎_elim (λ (among : is_among truths t.0 ≡ true).
        let found = Any-from_list_any (λ m. m.var == t.0.var && beq m.neg t.0.neg) truths among in
        let parts = and_parts (found.1.var == t.0.var) (beq found.1.neg t.0.neg) found.4 in
        let there = list_any_at (λ l. l.var == t.0.var) truths found.0 found.1 found.2 (ap (λ (l : Literal). l.var == t.0.var) found.3 ∙ parts.0) in
        cc) (λ (n : is_among truths t.0 ≡ false). n) (cases_Bool (is_among truths t.0))

    met : is_among truths t.0 ≡ true → lit_true a t.0 ≡ true
    met among =
        let found = Any-from_list_any (λ m. m.var == t.0.var && beq m.neg t.0.neg) truths among in
        let is : found.1 ≡ t.0 = is_same-true found.1 t.0 found.4 in
        ap (lit_true a) (sym is) ∙ subst (λ (l : Literal). lit_true a l ≡ true) found.3 (all found.0 found.1 found.2)

    false_else : is_set truths t.0.var ≡ true → is_among truths t.0 ≡ false → lit_true a t.0 ≡ false
    false_else set other =
        let found = Any-from_list_any (λ l. l.var == t.0.var) truths set in
        let var : found.1.var ≡ t.0.var = eqb-true found.1.var t.0.var found.4 in
        let sign : beq found.1.neg t.0.neg ≡ false = ⊎_elim (λ (e : beq found.1.neg t.0.neg ≡ true).
        let there = list_any_at (λ m. m.var == t.0.var && beq m.neg t.0.neg) truths found.0 found.1 found.2 (ap (λ (m : Literal). m.var == t.0.var && beq m.neg t.0.neg) found.3 ∙ and_from (found.1.var == t.0.var) (beq found.1.neg t.0.neg) found.4 e) in
        cc) (λ (e : beq found.1.neg t.0.neg ≡ false). e) (cases_Bool (beq found.1.neg t.0.neg)) in
        let true' : lit_true a found.1 ≡ true = subst (λ (l : Literal). lit_true a l ≡ true) found.3 (all found.0 found.1 found.2) in
        lost found.1.neg t.0.neg (value_of a t.0.var) sign (subst (λ (v : ℕ). (if found.1.neg then not (value_of a v) else value_of a v) ≡ true) var true')

value-cond : (a : List Bool) (b : Bool) (t : Literal × ℕ) (terms : List (Literal × ℕ)) → value a (cond b (t ∷ terms) terms) ≡ (if b then term_value a t else 0) + value a terms
value-cond a true t terms = sum_by-cons (term_value a) t terms
value-cond a false t terms = omega arith

value-parts : (a : List Bool) (truths : List Literal) → All (λ l. lit_true a l ≡ true) truths → (terms : List (Literal × ℕ)) → value a terms ≡ value a (filter (λ t. not (is_set truths t.0.var)) terms) + sum_by (met_value truths) terms
value-parts a truths all [] = refl
value-parts a truths all (t ∷ terms) =
    let one = term_parts a truths all t in
    let rest = value-parts a truths all terms in
    let whole = sum_by-cons (term_value a) t terms in
    let met = sum_by-cons (met_value truths) t terms in
    let kept = value-cond a (not (is_set truths t.0.var)) t (filter (λ r. not (is_set truths r.0.var)) terms) in
    omega arith

pub Holds-restriction : (c : ConstraintValue) (truths : List Literal) (a : List Bool) → All (λ l. lit_true a l ≡ true) truths → (Holds a (restriction c truths) ↔ Holds a c)
Holds-restriction c truths a all =
    let parts = value-parts a truths all c.terms in
    ((λ h. omega arith), (λ h. omega arith))
