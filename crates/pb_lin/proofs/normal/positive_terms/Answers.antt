use Rattle.std.proofs.Common.{ℕ, ℤ, ◌<◌, arith, ap, subst, sym, ◌∙◌, unsigned_abs, Vec, Global}
use Rattle.std.specs.List.{All}
use Rattle.std.proofs.lemmas.Int.{ints}
use Rattle.std.proofs.lemmas.List.{take_all}
use Rattle.std.proofs.lemmas.List.Elements.{All-push}
use Rattle.std.proofs.lemmas.List.Sums.{sum_by_push, sum_by_more, sum_by_more_le}
use Rattle.scut_base.specs.Literal.{Literal}
use Rattle.pb_lin.specs.Constraint.{total, value, term_value}
use Rattle.pb_lin.specs.NormalForm.{signed_value, sum_value}
use Rattle.pb_lin.proofs.Sums.{sum_value_more, term_value-le}
use Rattle.pb_lin.proofs.normal.positive_terms.Goals as goal
use Rattle.pb_lin.proofs.normal.positive_terms.Goals.{then-term-gt0+in_ok-push, else-term-gt0}

pub overflow_add-lowered : goal.overflow_add-lowered
overflow_add-lowered c =
    let more = sum_by_more_le (λ (t : ℤ × Literal). unsigned_abs t.0) c.args.terms.now c.loop-given.given-index c.given-item.result c.loop-given-test.true in
    let here = ap (λ (t : ℤ × Literal). unsigned_abs t.0) c.given-item.is in
    omega (arith, c.loop-given.invariant.lowered, c.positive_term-term.ensures.lowered, c.requires)

pub loop-given-preserved : goal.loop-given-preserved
loop-given-preserved c = record {
  value = λ a.
      let more = sum_value_more a c.args.terms.now c.loop-given.given-index c.given-item.result c.loop-given-test.true in
      let here = ap (signed_value a) c.given-item.is in
      let old = c.loop-given.invariant.value a in
      let new = c.positive_term-term.ensures.value a in
      elim c.if-term-gt0.branch [
        | then-term-gt0+in_ok-push w ↦
            let is = ap (λ (v : Vec (Literal × ℕ) Global). value a v.items) w.positive-is in
            let pushed = ap (value a) w.in_ok-push.ensures.items in
            let sum = sum_by_push (term_value a) c.loop-given.positive.items c.positive_term-term.result.0 in
            omega (arith, ints)
        | else-term-gt0 w ↦
            let is = ap (λ (v : Vec (Literal × ℕ) Global). value a v.items) w.positive-is in
            let none = term_value-le a c.positive_term-term.result.0 in
            omega (arith, ints)
      ];
  positive =
      let IsPositive : Vec (Literal × ℕ) Global → Type 0 = λ v. All (λ (t : Literal × ℕ). 0 < t.1) v.items in
      elim c.if-term-gt0.branch [
        | then-term-gt0+in_ok-push w ↦ subst IsPositive (sym w.positive-is) (subst (All (λ (t : Literal × ℕ). 0 < t.1)) (sym w.in_ok-push.ensures.items) (All-push (λ (t : Literal × ℕ). 0 < t.1) c.loop-given.positive.items c.positive_term-term.result.0 c.loop-given.invariant.positive w.if-term-gt0.true))
        | else-term-gt0 w ↦ subst IsPositive (sym w.positive-is) c.loop-given.invariant.positive
      ];
  total =
      let more = sum_by_more (λ (t : ℤ × Literal). unsigned_abs t.0) c.args.terms.now c.loop-given.given-index c.given-item.result c.loop-given-test.true in
      let here = ap (λ (t : ℤ × Literal). unsigned_abs t.0) c.given-item.is in
      elim c.if-term-gt0.branch [
        | then-term-gt0+in_ok-push w ↦
            let is = ap (λ (v : Vec (Literal × ℕ) Global). total v.items) w.positive-is in
            let pushed = ap total w.in_ok-push.ensures.items in
            let sum = sum_by_push (λ (t : Literal × ℕ). t.1) c.loop-given.positive.items c.positive_term-term.result.0 in
            omega arith
        | else-term-gt0 w ↦ let is = ap (λ (v : Vec (Literal × ℕ) Global). total v.items) w.positive-is in omega arith
      ];
  lowered =
      let more = sum_by_more (λ (t : ℤ × Literal). unsigned_abs t.0) c.args.terms.now c.loop-given.given-index c.given-item.result c.loop-given-test.true in
      let here = ap (λ (t : ℤ × Literal). unsigned_abs t.0) c.given-item.is in
      omega arith;
}

pub returns-clause-value : goal.returns-clause-value
returns-clause-value c = λ a. c.loop-given.invariant.value a ∙ ap (sum_value a) (take_all c.loop-given.given-index c.args.terms.now c.loop-given-test.false)
