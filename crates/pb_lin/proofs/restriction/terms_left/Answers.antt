use Rattle.std.proofs.Common.{ℕ, arith, ap}
use Rattle.std.proofs.lemmas.List.Sums.{sum_by_more_le_part}
use Rattle.scut_base.specs.Literal.{Literal}
use Rattle.pb_lin.specs.Restriction.{met_value}
use Rattle.pb_lin.proofs.Truths.{met_value-le}
use Rattle.pb_lin.proofs.restriction.terms_left.Goals as goal

pub overflow_add-met : goal.overflow_add-met
overflow_add-met c =
    let sum = sum_by_more_le_part (met_value c.args.truths.now) (λ (t : Literal × ℕ). t.1) c.args.terms.now c.loop-term.term-index c.term-item.result c.loop-term-test.true (met_value-le c.args.truths.now) in
    let here = ap (λ (t : Literal × ℕ). t.1) c.term-item.is in
    omega arith
