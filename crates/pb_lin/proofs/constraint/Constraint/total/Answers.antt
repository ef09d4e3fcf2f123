use Rattle.std.proofs.Common.{arith}
use Rattle.pb_lin.proofs.AtPlace.{sum_place, sum_place-le}
use Rattle.pb_lin.proofs.Ones.{total_ones}
use Rattle.pb_lin.proofs.constraint.Constraint.total.Goals as goal

pub returns-then-is_cardinality-clause-value : goal.returns-then-is_cardinality-clause-value
returns-then-is_cardinality-clause-value c =
    let sum = total_ones c.args.self.now.terms (c.is_cardinality.ensures.0 c.if-is_cardinality.true) in
    omega arith

pub overflow_add-total : goal.overflow_add-total
overflow_add-total c =
    let less = sum_place-le (λ t. t.1) c.args.self.now.terms c.loop-at.at c.term-total.result c.term-total.ensures in
    let small = c.len-at-end.ensures.normal.small in
    omega arith

pub loop-at-preserved : goal.loop-at-preserved
loop-at-preserved c =
    let more = sum_place (λ t. t.1) c.args.self.now.terms c.loop-at.at c.term-total.result c.term-total.ensures in
    omega arith
