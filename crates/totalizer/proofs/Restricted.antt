-- Sums of terms where some literals are true.
use Rattle.std.proofs.Common.{◌≡◌, ◌⊎◌, ⊎_elim, ℕ, ◌+◌, ◌<◌, ◌≤◌, ◌==◌, Bool, true, false, not, ◌&&◌, cond, if◌then◌else◌, List, [], ◌∷◌, ◌++◌, sum_by, get_or, length, refl, ap, sym, ◌∙◌, arith, append-nil}
use Rattle.std.proofs.Math.Bool.{beq}
use Rattle.std.specs.List.{filter}
use Rattle.std.specs.List.Sorted.{IsPermutation}
use Rattle.std.proofs.lemmas.Bool.{cases_Bool, cases_order, eq-eqb, eqb-true}
use Rattle.std.proofs.lemmas.List.{get_or_default}
use Rattle.std.proofs.lemmas.List.Elements.{filter-append}
use Rattle.std.proofs.lemmas.List.Folds.{list_any-from_Any, list_any_none}
use Rattle.std.proofs.lemmas.List.Sorted.{sum_by-IsPermutation}
use Rattle.std.proofs.lemmas.List.Sums.{sum_by-cons, sum_by-append}
use Rattle.scut_base.specs.Literal.{Literal}
use Rattle.pb_lin.specs.Constraint.{Covers, term_value, value}
use Rattle.pb_lin.specs.Restriction.{is_set, is_among, met_value, restriction}
use Rattle.pb_lin.proofs.Truths.{beq_same}
use Rattle.cutting_planes.proofs.Terms.{Terms}
use Rattle.totalizer.specs.Meaning.{AreTruthsWith}

-- ---- what passes a test

sum_put : {X : Type 0} (f : X → ℕ) (x : X) (ys : List X) (b : Bool) →
    sum_by f (cond b (x ∷ ys) ys) ≡ (if b then f x else 0) + sum_by f ys
sum_put f x ys true = sum_by-cons f x ys
sum_put f x ys false = omega arith

sum_filtered : {X : Type 0} (f : X → ℕ) (p : X → Bool) (xs : List X) →
    sum_by f (filter p xs) ≡ sum_by (λ x. if p x then f x else 0) xs
sum_filtered f p [] = refl
sum_filtered f p (x ∷ xs) =
    let one = sum_put f x (filter p xs) (p x) in
    let rest = sum_filtered f p xs in
    let both = sum_by-cons (λ y. if p y then f y else 0) x xs in
    omega arith

-- terms in another order have the same sum, of those that pass too
pub value_moved : (x : List Bool) (p : Literal × ℕ → Bool) (ts us : Terms) → IsPermutation ts us →
    value x (filter p us) ≡ value x (filter p ts)
value_moved x p ts us moved =
    sum_filtered (term_value x) p us ∙ sum_by-IsPermutation (λ t. if p t then term_value x t else 0) ts us moved
    ∙ sym (sum_filtered (term_value x) p ts)

-- ---- a literal among true ones

module _ (l : Literal) (truths : List Literal) (are : AreTruthsWith l truths) where
  -- its variable is set
  pub set_by : is_set truths l.var ≡ true
  set_by = list_any-from_Any (λ (m : Literal). m.var == l.var) truths
      (are.there.0, l, are.there.1, are.there.2, eq-eqb l.var l.var refl)

  pub among_them : is_among truths l ≡ true
  among_them = list_any-from_Any (λ (m : Literal). m.var == l.var && beq m.neg l.neg) truths (
    are.there.0,
    l,
    are.there.1,
    are.there.2,
    ap (λ (b : Bool). b && beq l.neg l.neg) (eq-eqb l.var l.var refl) ∙ beq_same l.neg l.neg refl,
  )

  -- it is the only one of its variable
  only_one : (i : ℕ) (d : Literal) → i < length truths → (get_or truths i d).var ≡ l.var → get_or truths i d ≡ l
  only_one i d short same =
      let here : get_or truths are.there.0 d ≡ l = get_or_default truths are.there.0 d l are.there.1 ∙ are.there.2 in
      let var = ap (λ (m : Literal). m.var) here in
      ⊎_elim
      (λ (e : i ≡ are.there.0). ap (λ (j : ℕ). get_or truths j d) e ∙ here)
      (λ (other : (i < are.there.0) ⊎ (are.there.0 < i)). ⊎_elim
      (λ (before : i < are.there.0). absurd (are.apart i are.there.0 d before are.there.1 (same ∙ sym var)))
      (λ (after : are.there.0 < i). absurd (are.apart are.there.0 i d after short (var ∙ sym same)))
      other)
      (cases_order i are.there.0)

  -- the literal of the other sign isn't among them
  pub not_negated : l.neg ≡ false → is_among truths (record { var = l.var; neg = true }) ≡ false
  not_negated positive = list_any_none (λ (m : Literal). m.var == l.var && beq m.neg true) truths (λ i d short. ⊎_elim
      (λ (same : ((get_or truths i d).var == l.var) ≡ true).
      let is = only_one i d short (eqb-true (get_or truths i d).var l.var same) in
      ap (λ (b : Bool). b && beq (get_or truths i d).neg true) same ∙ ap (λ (m : Literal). beq m.neg true) is
      ∙ ap (λ (b : Bool). beq b true) positive)
      (λ (other : ((get_or truths i d).var == l.var) ≡ false).
      ap (λ (b : Bool). b && beq (get_or truths i d).neg true) other)
      (cases_Bool ((get_or truths i d).var == l.var)))

  -- ---- lines

  -- where the literal is true, its weight is reached
  pub leaf_covers : (weight k : ℕ) → k ≤ weight →
      Covers (restriction (record { terms = []; degree = 0 }) truths)
      (restriction (record { terms = (l, weight) ∷ []; degree = k }) truths)
  leaf_covers weight k most x =
      let met = sum_by-cons (met_value truths) (l, weight) [] in
      let here : met_value truths (l, weight) ≡ weight = ap (λ (b : Bool). if b then weight else 0) among_them in
      omega arith

  -- and so is the sum, by the first line of the literal's definition
  pub defined_covers : (terms sum : Terms) (k n : ℕ) → IsPermutation terms sum → k ≤ n → l.neg ≡ false → 0 < n →
      Covers (restriction (record { terms = sum ++ (record { var = l.var; neg = true }, n) ∷ []; degree = n }) truths)
      (restriction (record { terms = terms; degree = k }) truths)
  defined_covers terms sum k n moved most positive some x =
      let last : Literal × ℕ = (record { var = l.var; neg = true }, n) in
      let p : Literal × ℕ → Bool = λ t. not (is_set truths t.0.var) in
      let gone : filter p (last ∷ []) ≡ [] = ap (λ (b : Bool). cond (not b) (last ∷ []) []) set_by in
      let left : value x (filter p (sum ++ last ∷ [])) ≡ value x (filter p sum) =
      ap (λ (ts : Terms). value x ts)
      (filter-append p sum (last ∷ []) ∙ ap (λ (ts : Terms). filter p sum ++ ts) gone ∙ append-nil (filter p sum)) in
      let same = value_moved x p terms sum moved in
      let met = sum_by-append (met_value truths) sum (last ∷ []) in
      let one = sum_by-cons (met_value truths) last [] in
      let none : met_value truths last ≡ 0 = ap (λ (b : Bool). if b then n else 0) (not_negated positive) in
      let others = sum_by-IsPermutation (met_value truths) terms sum moved in
      omega arith
