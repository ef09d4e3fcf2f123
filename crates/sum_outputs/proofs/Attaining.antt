-- The sums of a node's terms are those of its children's, added.
use Rattle.std.proofs.Common.{◌≡◌, ◌≢◌, ℕ, ◌+◌, ◌-◌, ◌<◌, ◌==◌, true, false, ◌++◌, get_or, length, refl, ap, sym, subst, ◌∙◌, arith}
use Rattle.std.specs.List.{All}
use Rattle.std.proofs.lemmas.Bool.{eq-eqb, ne_eqb}
use Rattle.std.proofs.lemmas.List.{get_or_append_left, get_or-append_right, get_or_default, length-append}
use Rattle.std.proofs.lemmas.List.Sums.{sum_by-append}
use Rattle.std.proofs.lemmas.List.Folds.{list_any-from_Any, list_any_none}
use Rattle.scut_base.specs.Literal.{Literal}
use Rattle.pb_lin.specs.Constraint.{term_value, total}
use Rattle.cutting_planes.proofs.Terms.{Terms}
use Rattle.proof_laws.proofs.Ranges.{all_prefix, all_suffix}
use Rattle.sum_outputs.specs.Totals.{AreWeights, IsAttainable}
use Rattle.sum_outputs.proofs.Glue.{AreApart, bound, bound_within, glued, value_inside, value_outside, within_more, none_true, all_true}
use Rattle.sum_outputs.proofs.Chains.{is_of}

-- each term's variable is one of the terms
pub own_variables : (ws : Terms) → All (λ t. is_of ws t.0.var ≡ true) ws
own_variables ws k d short = list_any-from_Any (λ w. (get_or ws k d).0.var == w.0.var) ws (k, get_or ws k d, short, get_or_default ws k (get_or ws k d) d short, eq-eqb (get_or ws k d).0.var (get_or ws k d).0.var refl)

module _ (first second : Terms) (weights : AreWeights (first ++ second)) where
  apart_left : AreApart first
  apart_left i j d less short =
      let whole = length-append first second in
      let both = weights.apart i j d less (omega arith) in
      let one : get_or (first ++ second) i d ≡ get_or first i d = get_or_append_left first second d i (omega arith) in
      let two : get_or (first ++ second) j d ≡ get_or first j d = get_or_append_left first second d j short in
      λ e. both (ap (λ (t : Literal × ℕ). t.0.var) one ∙ e ∙ sym (ap (λ (t : Literal × ℕ). t.0.var) two))

  right_is : (j : ℕ) (d : Literal × ℕ) → get_or (first ++ second) (length first + j) d ≡ get_or second j d
  right_is j d = get_or-append_right first second (length first) (length first + j) d refl (omega arith) ∙ ap (λ (k : ℕ). get_or second k d) (let e : (length first + j) - length first ≡ j = omega arith in e)

  apart_right : AreApart second
  apart_right i j d less short =
      let whole = length-append first second in
      let both = weights.apart (length first + i) (length first + j) d (omega arith) (omega arith) in
      λ e. both (ap (λ (t : Literal × ℕ). t.0.var) (right_is i d) ∙ e ∙ sym (ap (λ (t : Literal × ℕ). t.0.var) (right_is j d)))

  -- no variable of the one is one of the other
  pub apart_across : (i j : ℕ) (d : Literal × ℕ) → i < length first → j < length second → (get_or first i d).0.var ≢ (get_or second j d).0.var
  apart_across i j d short short' e =
      let whole = length-append first second in
      let both = weights.apart i (length first + j) d (omega arith) (omega arith) in
      let one : get_or (first ++ second) i d ≡ get_or first i d = get_or_append_left first second d i short in
      both (ap (λ (t : Literal × ℕ). t.0.var) one ∙ e ∙ sym (ap (λ (t : Literal × ℕ). t.0.var) (right_is j d)))

  pub weights_left : AreWeights first
  weights_left = record {
    positive = all_prefix (λ t. 0 < t.1) first second weights.positive;
    from_one = all_prefix (λ t. 0 < t.0.var) first second weights.from_one;
    apart = apart_left;
    small = let sum = sum_by-append (λ (t : Literal × ℕ). t.1) first second in let small = weights.small in omega arith;
  }

  pub weights_right : AreWeights second
  weights_right = record {
    positive = all_suffix (λ t. 0 < t.1) first second weights.positive;
    from_one = all_suffix (λ t. 0 < t.0.var) first second weights.from_one;
    apart = apart_right;
    small = let sum = sum_by-append (λ (t : Literal × ℕ). t.1) first second in let small = weights.small in omega arith;
  }

  abbrev n : ℕ
  n = bound first + bound second

  outside_second : All (λ t. is_of first t.0.var ≡ false) second
  outside_second j d short = list_any_none (λ w. (get_or second j d).0.var == w.0.var) first (λ i e short'.
      ne_eqb (get_or second j d).0.var (get_or first i e).0.var (λ same.
      let one : get_or first i e ≡ get_or first i d = get_or_default first i e d short' in
      apart_across i j d short' short (sym (ap (λ (t : Literal × ℕ). t.0.var) one) ∙ sym same)))

  -- sums of both together
  pub attain_both : (p q : ℕ) → IsAttainable first p → IsAttainable second q → IsAttainable (first ++ second) (p + q)
  attain_both p q one two =
      let x = glued n (is_of first) one.0 two.0 in
      let left = value_inside n (is_of first) one.0 two.0 first (within_more (bound first) n first (omega arith) (bound_within first weights_left.from_one)) (own_variables first) in
      let right = value_outside n (is_of first) one.0 two.0 second (within_more (bound second) n second (omega arith) (bound_within second weights_right.from_one)) outside_second in
      let whole = sum_by-append (term_value x) first second in
      let is_one = one.1 in
      let is_two = two.1 in
      (x, omega arith)

pub attain_none : (terms : Terms) → AreWeights terms → IsAttainable terms 0
attain_none terms weights = none_true (bound terms) terms weights.apart (bound_within terms weights.from_one)

pub attain_total : (terms : Terms) → AreWeights terms → IsAttainable terms (total terms)
attain_total terms weights = all_true (bound terms) terms weights.apart (bound_within terms weights.from_one)

module _ (first second : Terms) (weights : AreWeights (first ++ second)) where
  pub attain_first : (p : ℕ) → IsAttainable first p → IsAttainable (first ++ second) p
  attain_first p one = subst (λ (k : ℕ). IsAttainable (first ++ second) k) (let e : p + 0 ≡ p = omega arith in e)
      (attain_both first second weights p 0 one (attain_none second (weights_right first second weights)))

  pub attain_second : (q : ℕ) → IsAttainable second q → IsAttainable (first ++ second) q
  attain_second q two = subst (λ (k : ℕ). IsAttainable (first ++ second) k) (let e : 0 + q ≡ q = omega arith in e)
      (attain_both first second weights 0 q (attain_none first (weights_left first second weights)) two)
