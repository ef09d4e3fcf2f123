-- Lists of literals, and terms of the coefficient 1.
use Rattle.std.proofs.Common.{◌≡◌, ◌≢◌, ℕ, ◌+◌, ◌<◌, ◌≤◌, ◌==◌, ◌&&◌, suc, Bool, true, false, List, [], ◌∷◌, ◌++◌, map, take, drop, length, get_or, refl, ap, sym, subst, ◌∙◌, arith, append-nil}
use Rattle.std.specs.Prelude.{◌^◌}
use Rattle.std.specs.List.{All, AllPairs, list_all}
use Rattle.std.proofs.Math.Bool.{beq}
use Rattle.std.proofs.lemmas.Bool.{and_parts, eq-eqb, eqb-true}
use Rattle.std.proofs.lemmas.List.Folds.{list_any-from_Any}
use Rattle.std.proofs.lemmas.List.{get_or-map, get_or_append_left, length-append, length-map, length-take-le, map-append, take-append-drop}
use Rattle.std.proofs.lemmas.List.Elements.{All-nil, All-cons, All-head, All-map}
use Rattle.scut_base.specs.Literal.{Literal}
use Rattle.pb_lin.specs.Constraint.{AreOnes, ConstraintValue, IsNormal, literals, ones, opposite, total}
use Rattle.pb_lin.specs.Place.{IsPlace}
use Rattle.pb_lin.specs.Restriction.{is_among}
use Rattle.pb_lin.proofs.Truths.{beq_same, other_sign}
use Rattle.pb_lin.proofs.Ones.{AllPairs-map, normal-ones}
use Rattle.pb_lin.proofs.Terms.{terms_of-none, terms_of-ones}
use Rattle.cutting_planes.proofs.Terms.{Terms}
use Rattle.proof_laws.specs.Refusal.{is_clause}
use Rattle.sum_outputs.specs.Totals.{AreWeights, IsAttainable}
use Rattle.sum_outputs.proofs.Attaining.{attain_first, attain_total, weights_left}
use Rattle.core_boosting.specs.Counting.{counting}
use Rattle.core_boosting.proofs.Countings.{constraint_same, scaled_positive, scaled_total}
use Rattle.core_boosting.proofs.Exchanges.{pairs_head, pairs_tail}

-- ---- what only variables say

abbrev pub var_of : Literal → ℕ
var_of l = l.var

-- literals that rise
abbrev pub AreRising : List Literal → Type 0
AreRising lits = AllPairs (λ l m. l.var < m.var) lits

pub rising_first : (xs ys : List Literal) → AreRising (xs ++ ys) → AreRising xs
rising_first xs ys rising i j d before short =
    let long = length-append xs ys in
    let both = rising i j d before (omega arith) in
    let one = ap var_of (get_or_append_left xs ys d i (omega arith)) in
    let other = ap var_of (get_or_append_left xs ys d j short) in
    omega arith

pub rising_rest : (xs ys : List Literal) → AreRising (xs ++ ys) → AreRising ys
rising_rest [] ys rising = rising
rising_rest (x ∷ xs) ys rising = rising_rest xs ys (pairs_tail (λ l m. l.var < m.var) x (xs ++ ys) rising)

module _ (xs ys : List Literal) (same : map var_of xs ≡ map var_of ys) where
  as_long : length xs ≡ length ys
  as_long =
      let sizes = ap (λ (ns : List ℕ). length ns) same in
      let left = length-map xs var_of in
      let right = length-map ys var_of in
      omega arith

  same_variable : (i : ℕ) (d : Literal) → i < length xs → (get_or xs i d).var ≡ (get_or ys i d).var
  same_variable i d short =
      let long = as_long in
      sym (get_or-map var_of xs i d 0 short) ∙ ap (λ (ns : List ℕ). get_or ns i 0) same ∙ get_or-map var_of ys i d 0 (omega arith)

  pub rising_too : AreRising xs → AreRising ys
  rising_too rising i j d before short =
      let long = as_long in
      let one = same_variable i d (omega arith) in
      let other = same_variable j d (omega arith) in
      let here = rising i j d before (omega arith) in
      omega arith

  pub variables_too : (P : ℕ → Type 0) → All (λ l. P l.var) xs → All (λ l. P l.var) ys
  variables_too P all k d short =
      let long = as_long in
      subst P (same_variable k d (omega arith)) (all k d (omega arith))

-- opposites have the same variables
pub opposite_variables : (lits : List Literal) → map var_of (map opposite lits) ≡ map var_of lits
opposite_variables [] = refl
opposite_variables (l ∷ lits) = ap (λ (ns : List ℕ). l.var ∷ ns) (opposite_variables lits)

pub against_variables : (lits outputs : List Literal) → map var_of (lits ++ outputs) ≡ map var_of (lits ++ map opposite outputs)
against_variables lits outputs =
    map-append var_of lits outputs
    ∙ ap (λ (ns : List ℕ). map var_of lits ++ ns) (sym (opposite_variables outputs))
    ∙ sym (map-append var_of lits (map opposite outputs))

-- literals that rise are no more than the variables up to the greatest
rising_few : (lits : List Literal) (base n : ℕ) → base ≤ n → All (λ l. base < l.var) lits → All (λ l. l.var ≤ n) lits → AreRising lits → base + length lits ≤ n
rising_few [] base n most above upto rising = omega arith
rising_few (l ∷ ls) base n most above upto rising =
    let here = All-head (λ m. base < m.var) l ls above in
    let end = All-head (λ m. m.var ≤ n) l ls upto in
    let rest = rising_few ls l.var n end (pairs_head (λ m k. m.var < k.var) l ls rising) (λ k d short. upto (suc k) d (omega arith)) (pairs_tail (λ m k. m.var < k.var) l ls rising) in
    omega arith

pub no_more_than : (lits : List Literal) (n : ℕ) → All (λ l. 0 < l.var) lits → All (λ l. l.var ≤ n) lits → AreRising lits → length lits ≤ n
no_more_than lits n some upto rising = let few = rising_few lits 0 n (omega arith) some upto rising in omega arith

-- ---- terms of the coefficient 1

pub ones_long : (ls : List Literal) → length (ones ls) ≡ length ls
ones_long [] = refl
ones_long (l ∷ ls) = ap suc (ones_long ls)

are_ones : (terms : Terms) → list_all (λ t. t.1 == 1) terms ≡ true → AreOnes terms
are_ones [] is = All-nil (λ t. t.1 ≡ 1)
are_ones (t ∷ terms) is =
    let parts = and_parts (t.1 == 1) (list_all (λ u. u.1 == 1) terms) is in
    All-cons (λ u. u.1 ≡ 1) t terms (eqb-true t.1 1 parts.0) (are_ones terms parts.1)

-- a clause counts its literals, against none
pub clause_counted : (c : ConstraintValue) → is_clause c ≡ true → c ≡ counting (literals c.terms) []
clause_counted c is =
    let parts = and_parts (list_all (λ t. t.1 == 1) c.terms) (c.degree == 1) is in
    constraint_same c.terms (ones (literals c.terms ++ [])) c.degree 1
    (sym (terms_of-ones c.terms (are_ones c.terms parts.0)) ∙ terms_of-none (literals c.terms)
    ∙ ap (λ (ls : List Literal). ones ls) (sym (append-nil (literals c.terms))))
    (eqb-true c.degree 1 parts.1)

-- ---- sums of literals that rise

pub ones_weights : (lits : List Literal) → AreRising lits → All (λ l. 0 < l.var) lits → length lits < 2 ^ 63 → AreWeights (ones lits)
ones_weights lits rising some few = record {
  positive = scaled_positive 1 lits (omega arith);
  from_one = All-map (λ t. 0 < t.0.var) (λ l. (l, 1)) lits some;
  apart = AllPairs-map (λ s t. s.0.var ≢ t.0.var) (λ l. (l, 1)) (λ t. t.0) lits (λ i j d before short e. let less = rising i j d before short in omega arith);
  small = let all = scaled_total 1 lits in omega arith;
}

pub ones_normal : (lits : List Literal) (degree : ℕ) → AreRising lits → All (λ l. 0 < l.var) lits → length lits + degree ≤ 2 ^ 100 → IsNormal (ones lits) degree
ones_normal lits degree rising some small = normal-ones lits degree rising (λ d short. some 0 d short) small

-- any number of them can be true
pub ones_attain : (lits : List Literal) (n : ℕ) → AreWeights (ones lits) → n ≤ length lits → IsAttainable (ones lits) n
ones_attain lits n weights most =
    let parts : ones lits ≡ ones (take n lits) ++ ones (drop n lits) =
    ap (λ (ls : List Literal). ones ls) (sym (take-append-drop n lits)) ∙ map-append (λ l. (l, 1)) (take n lits) (drop n lits) in
    let both : AreWeights (ones (take n lits) ++ ones (drop n lits)) = subst (λ (ts : Terms). AreWeights ts) parts weights in
    let all = scaled_total 1 (take n lits) in
    let long = length-take-le n lits most in
    subst (λ (ts : Terms). IsAttainable ts n) (sym parts)
    (attain_first (ones (take n lits)) (ones (drop n lits)) both n
    (subst (λ (m : ℕ). IsAttainable (ones (take n lits)) m) (let e : total (ones (take n lits)) ≡ n = omega arith in e)
    (attain_total (ones (take n lits)) (weights_left (ones (take n lits)) (ones (drop n lits)) both))))

-- ---- one literal among others

-- the one at the place of its variable
pub among_at : (lits : List Literal) (l m : Literal) (i : ℕ) → AreRising lits → IsPlace (λ n. n.var) lits l.var i → i < length lits →
    ((d : Literal) → get_or lits i d ≡ m) → m.var ≡ l.var → beq m.neg l.neg ≡ is_among lits l
among_at lits l m i rising place short at same = by (beq m.neg l.neg) refl
  where
    by : (b : Bool) → beq m.neg l.neg ≡ b → b ≡ is_among lits l
    by true e = sym (list_any-from_Any (λ n. n.var == l.var && beq n.neg l.neg) lits
        (i, m, short, at m, ap (λ (b : Bool). b && beq m.neg l.neg) (eq-eqb m.var l.var same) ∙ e))
    by false e = sym (other_sign lits l i rising place (λ d inside f.
        let is : beq m.neg l.neg ≡ true = beq_same m.neg l.neg (sym (ap (λ (n : Literal). n.neg) (at d)) ∙ f) in cc))
