use Rattle.std.proofs.Common.{ℕ, Bool, if◌then◌else◌, arith, ap, sym, ◌∙◌}
use Rattle.std.proofs.lemmas.Int.{ints}
use Rattle.std.proofs.lemmas.List.{take_all}
use Rattle.std.proofs.lemmas.List.Sums.{sum_by_more, sum_by_more_le, sum_by-take-le}
use Rattle.scut_base.specs.Literal.{Literal}
use Rattle.pb_lin.specs.Constraint.{total, value, term_value}
use Rattle.pb_lin.proofs.cost_row.row_cost.Goals as goal
use Rattle.pb_lin.proofs.cost_row.row_cost.Goals.{then-value, else-value}

pub overflow_add-value : goal.overflow_add-value
overflow_add-value c =
    let more = sum_by_more_le (λ (t : Literal × ℕ). t.1) c.terms-term-items.result.now c.loop-term.term-index c.term-item.result c.loop-term-test.true in
    let here = ap (λ (t : Literal × ℕ). t.1) c.term-item.is in
    let all = ap total c.terms-term-items.ensures.value in
    let small = c.terms-term-items.ensures.row.small in
    omega arith

pub loop-term-preserved : goal.loop-term-preserved
loop-term-preserved c = record {
  value =
      let more = sum_by_more (term_value c.args.a.now) c.terms-term-items.result.now c.loop-term.term-index c.term-item.result c.loop-term-test.true in
      let here = ap (term_value c.args.a.now) c.term-item.is in
      elim c.if-value.branch [
        | then-value w ↦
            let truth = ap (λ (b : Bool). if b then c.term-item.result.1 else 0) (sym c.value.ensures ∙ w.if-value.true) in
            let is = w.value-is in
            omega arith
        | else-value w ↦
            let truth = ap (λ (b : Bool). if b then c.term-item.result.1 else 0) (sym c.value.ensures ∙ w.if-value.false) in
            let is = w.value-is in
            omega arith
      ];
  bound =
      let more = sum_by_more (λ (t : Literal × ℕ). t.1) c.terms-term-items.result.now c.loop-term.term-index c.term-item.result c.loop-term-test.true in
      let here = ap (λ (t : Literal × ℕ). t.1) c.term-item.is in
      elim c.if-value.branch [
        | then-value w ↦ let is = w.value-is in omega arith
        | else-value w ↦ let is = w.value-is in omega arith
      ];
}

pub overflow_cast-result : goal.overflow_cast-result
overflow_cast-result c =
    let part = sum_by-take-le (λ (t : Literal × ℕ). t.1) c.terms-term-items.result.now c.loop-term.term-index in
    let all = ap total c.terms-term-items.ensures.value in
    let small = c.terms-term-items.ensures.row.small in
    omega (arith, ints)

pub overflow_add-result : goal.overflow_add-result
overflow_add-result c =
    let part = sum_by-take-le (λ (t : Literal × ℕ). t.1) c.terms-term-items.result.now c.loop-term.term-index in
    let all = ap total c.terms-term-items.ensures.value in
    let small = c.terms-term-items.ensures.row.small in
    let least = c.terms-term-items.ensures.row.least in
    let greatest = c.terms-term-items.ensures.row.greatest in
    let offset = c.offset.ensures in
    omega (arith, ints)

pub returns : goal.returns
returns c =
    let part = sum_by-take-le (λ (t : Literal × ℕ). t.1) c.terms-term-items.result.now c.loop-term.term-index in
    let all = ap total c.terms-term-items.ensures.value in
    let small = c.terms-term-items.ensures.row.small in
    let least = c.terms-term-items.ensures.row.least in
    let greatest = c.terms-term-items.ensures.row.greatest in
    let whole = ap (value c.args.a.now) (take_all c.loop-term.term-index c.terms-term-items.result.now c.loop-term-test.false ∙ c.terms-term-items.ensures.value) in
    let offset = c.offset.ensures in
    omega (arith, ints)
