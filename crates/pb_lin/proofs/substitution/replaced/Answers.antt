use Rattle.std.proofs.Common.{ℕ, ◌<◌, Bool, if◌then◌else◌, arith, ap, subst, sym, ◌∙◌, Vec, Global}
use Rattle.std.specs.List.{All}
use Rattle.std.proofs.lemmas.List.{take_all}
use Rattle.std.proofs.lemmas.List.Elements.{All-push}
use Rattle.std.proofs.lemmas.List.Sums.{sum_by_push, sum_by_more, sum_by_more_le}
use Rattle.scut_base.specs.Literal.{Literal}
use Rattle.pb_lin.specs.declared.witness.Image.{Image}
use Rattle.pb_lin.specs.Constraint.{total, value, term_value}
use Rattle.pb_lin.specs.Substitution.{image_true, true_under, value_under}
use Rattle.pb_lin.proofs.substitution.replaced.Goals as goal
use Rattle.pb_lin.proofs.substitution.replaced.Goals.{in-Zero, in-One, in-Lit+in_ok-push-in-Lit}

pub overflow_add-met : goal.overflow_add-met
overflow_add-met c =
    let more = sum_by_more_le (λ (t : Literal × ℕ). t.1) c.args.terms.now c.loop-term.term-index c.term-item.result c.loop-term-test.true in
    let here = ap (λ (t : Literal × ℕ). t.1) c.term-item.is in
    omega (arith, c.loop-term.invariant.total, c.requires.small)

pub loop-term-preserved : goal.loop-term-preserved
loop-term-preserved c = record {
  value = λ a.
      let more = sum_by_more (λ (t : Literal × ℕ). if true_under c.args.w.now a t.0 then t.1 else 0) c.args.terms.now c.loop-term.term-index c.term-item.result c.loop-term-test.true in
      let here = ap (λ (t : Literal × ℕ). if true_under c.args.w.now a t.0 then t.1 else 0) c.term-item.is in
      let truth = ap (λ (b : Bool). if b then c.term-item.result.1 else 0) (c.image_of.ensures.truth a) in
      let old = c.loop-term.invariant.value a in
      elim c.match-image_of.branch [
        | in-Zero w ↦
            let image = ap (λ (i : Image). if image_true a i then c.term-item.result.1 else 0) w.in-Zero.is in
            let is = ap (λ (v : Vec (Literal × ℕ) Global). value a v.items) w.replaced-is in
            let met = w.met-is in
            omega arith
        | in-One w ↦
            let image = ap (λ (i : Image). if image_true a i then c.term-item.result.1 else 0) w.in-One.is in
            let is = ap (λ (v : Vec (Literal × ℕ) Global). value a v.items) w.replaced-is in
            let met = w.met-is in
            omega arith
        | in-Lit+in_ok-push-in-Lit w ↦
            let image = ap (λ (i : Image). if image_true a i then c.term-item.result.1 else 0) w.in-Lit.is in
            let is = ap (λ (v : Vec (Literal × ℕ) Global). value a v.items) w.replaced-is in
            let pushed = ap (value a) w.in_ok-push-in-Lit.ensures.items in
            let sum = sum_by_push (term_value a) c.loop-term.replaced.items (w.in-Lit.literal, c.term-item.result.1) in
            let met = w.met-is in
            omega arith
      ];
  total =
      let more = sum_by_more (λ (t : Literal × ℕ). t.1) c.args.terms.now c.loop-term.term-index c.term-item.result c.loop-term-test.true in
      let here = ap (λ (t : Literal × ℕ). t.1) c.term-item.is in
      let old = c.loop-term.invariant.total in
      elim c.match-image_of.branch [
        | in-Zero w ↦ let is = ap (λ (v : Vec (Literal × ℕ) Global). total v.items) w.replaced-is in let met = w.met-is in omega arith
        | in-One w ↦ let is = ap (λ (v : Vec (Literal × ℕ) Global). total v.items) w.replaced-is in let met = w.met-is in omega arith
        | in-Lit+in_ok-push-in-Lit w ↦
            let is = ap (λ (v : Vec (Literal × ℕ) Global). total v.items) w.replaced-is in
            let pushed = ap total w.in_ok-push-in-Lit.ensures.items in
            let sum = sum_by_push (λ (t : Literal × ℕ). t.1) c.loop-term.replaced.items (w.in-Lit.literal, c.term-item.result.1) in
            let met = w.met-is in
            omega arith
      ];
  positive =
      let IsPositive : Vec (Literal × ℕ) Global → Type 0 = λ v. All (λ (t : Literal × ℕ). 0 < t.1) v.items in
      elim c.match-image_of.branch [
        | in-Zero w ↦ subst IsPositive (sym w.replaced-is) c.loop-term.invariant.positive
        | in-One w ↦ subst IsPositive (sym w.replaced-is) c.loop-term.invariant.positive
        | in-Lit+in_ok-push-in-Lit w ↦
            let one : 0 < c.term-item.result.1 = subst (λ (t : Literal × ℕ). 0 < t.1) (sym c.term-item.is) (c.requires.positive c.loop-term.term-index c.term-item.result c.loop-term-test.true) in
            subst IsPositive (sym w.replaced-is) (subst (All (λ (t : Literal × ℕ). 0 < t.1)) (sym w.in_ok-push-in-Lit.ensures.items) (All-push (λ (t : Literal × ℕ). 0 < t.1) c.loop-term.replaced.items (w.in-Lit.literal, c.term-item.result.1) c.loop-term.invariant.positive one))
      ];
}

pub returns-clause-value : goal.returns-clause-value
returns-clause-value c = λ a. c.loop-term.invariant.value a ∙ ap (value_under c.args.w.now a) (take_all c.loop-term.term-index c.args.terms.now c.loop-term-test.false)
