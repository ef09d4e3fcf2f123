-- Literals that are given as true.
use Rattle.std.proofs.Common.{◌≡◌, ◌≢◌, ℕ, ◌-◌, ◌<◌, ◌≤◌, ◌==◌, ◌&&◌, Bool, true, false, not, if◌then◌else◌, List, length, get_or, filter, sum_by, arith, ⊎_elim, subst, sym, refl, ap, ◌∙◌}
use Rattle.std.proofs.Math.Bool.{beq}
use Rattle.std.specs.List.{All, AllPairs}
use Rattle.std.proofs.lemmas.Bool.{ne_eqb, and_left, and_right, cases_eq, cond_both}
use Rattle.std.proofs.lemmas.List.Folds.{list_any_none}
use Rattle.scut_base.specs.Literal.{Literal}
use Rattle.pb_lin.specs.Place.{IsPlace}
use Rattle.std.specs.List.Sorted.{IsPermutation}
use Rattle.std.proofs.lemmas.List.Elements.{All-filter}
use Rattle.std.proofs.lemmas.List.Kept.{AllPairs-filter}
use Rattle.std.proofs.lemmas.List.Sorted.{list_any-IsPermutation}
use Rattle.pb_lin.specs.Constraint.{ConstraintValue, IsNormal}
use Rattle.pb_lin.specs.Restriction.{is_set, is_among, met_value, restriction}
use Rattle.scut_base.proofs.Lists.{sum_by_same, sum_by-filter-le}
use Rattle.pb_lin.proofs.Sums.{filter_same}
use Rattle.pb_lin.proofs.Places.{at_place}

pub beq_same : (x y : Bool) → x ≡ y → beq x y ≡ true
beq_same true true e = refl
beq_same true false e = cc
beq_same false true e = cc
beq_same false false e = refl

pub beq_other : (x y : Bool) → x ≢ y → beq x y ≡ false
beq_other true true e = absurd (e refl)
beq_other true false e = refl
beq_other false true e = refl
beq_other false false e = absurd (e refl)

pub not_set : (truths : List Literal) (v : ℕ) → All (λ l. l.var ≢ v) truths → is_set truths v ≡ false
not_set truths v apart = list_any_none (λ l. l.var == v) truths (λ k d short. ne_eqb _ _ (apart k d short))

pub not_among : (truths : List Literal) (l : Literal) → All (λ m. m.var ≢ l.var) truths → is_among truths l ≡ false
not_among truths l apart = list_any_none (λ m. m.var == l.var && beq m.neg l.neg) truths (λ k d short. and_left _ _ (ne_eqb _ _ (apart k d short)))

-- the one of its variable has the other sign
pub other_sign : (truths : List Literal) (l : Literal) (i : ℕ) → AllPairs (λ m n. m.var < n.var) truths → IsPlace (λ m. m.var) truths l.var i → ((d : Literal) → i < length truths → (get_or truths i d).neg ≢ l.neg) → is_among truths l ≡ false
other_sign truths l i up place sign = list_any_none (λ m. m.var == l.var && beq m.neg l.neg) truths (λ k d short. ⊎_elim (same k d short) (λ other. and_left _ _ (ne_eqb _ _ other)) (cases_eq (get_or truths k d).var l.var))
  where
    same : (k : ℕ) (d : Literal) → k < length truths → (get_or truths k d).var ≡ l.var → ((get_or truths k d).var == l.var && beq (get_or truths k d).neg l.neg) ≡ false
    same k d short e =
        let here : k ≡ i = at_place (λ m. m.var) truths l.var i up place k d short e in
        and_right _ _ (beq_other _ _ (subst (λ (j : ℕ). (get_or truths j d).neg ≢ l.neg) (sym here) (sign d (subst (λ (j : ℕ). j < length truths) here short))))

pub met_value-le : (truths : List Literal) (t : Literal × ℕ) → met_value truths t ≤ t.1
met_value-le truths t = cond_both (is_among truths t.0) t.1 0 (λ (n : ℕ). n ≤ t.1) (λ _. omega arith) (λ _. omega arith)

-- the same literals in another order
pub restriction-IsPermutation : (c : ConstraintValue) (xs ys : List Literal) → IsPermutation xs ys → restriction c ys ≡ restriction c xs
restriction-IsPermutation c xs ys moved =
    ap (λ (ts : List (Literal × ℕ)). record { terms = ts; degree = c.degree - sum_by (met_value ys) c.terms })
    (filter_same (λ t. not (is_set ys t.0.var)) (λ t. not (is_set xs t.0.var)) (λ t. ap not (sym (list_any-IsPermutation (λ l. l.var == t.0.var) xs ys moved))) c.terms)
    ∙ ap (λ (n : ℕ). record { terms = filter (λ t. not (is_set xs t.0.var)) c.terms; degree = c.degree - n })
    (sum_by_same (met_value ys) (met_value xs) (λ t. ap (λ (b : Bool). if b then t.1 else 0) (sym (list_any-IsPermutation (λ m. m.var == t.0.var && beq m.neg t.0.neg) xs ys moved))) c.terms)

pub IsNormal-restriction : (terms : List (Literal × ℕ)) (degree less : ℕ) (p : Literal × ℕ → Bool) → IsNormal terms degree → less ≤ degree → IsNormal (filter p terms) less
IsNormal-restriction terms degree less p n le = record {
  merged = record {
    positive = All-filter p (λ t. 0 < t.1) terms n.merged.positive;
    from_one = All-filter p (λ t. 0 < t.0.var) terms n.merged.from_one;
    rising = AllPairs-filter (λ s t. s.0.var < t.0.var) p terms n.merged.rising;
  };
  small = let part = sum_by-filter-le (λ (t : Literal × ℕ). t.1) p terms in let whole = n.small in omega arith;
}
