use Rattle.std.proofs.Common.{arith}
use Rattle.cutting_planes.proofs.SlotTerms.{multiple_total, multiple_small, multiple_more}
use Rattle.cutting_planes.proofs.slots.add_multiple.Goals as goal

pub overflow_mul-multiple : goal.overflow_mul-multiple
overflow_mul-multiple c =
    let small = multiple_small c.args.c.now.terms c.args.factor c.loop-at.at c.term-lit.result c.term-lit.ensures in
    let fits = c.requires.small in
    omega arith

pub add_term-requires-clause-small : goal.add_term-requires-clause-small
add_term-requires-clause-small c =
    let small = multiple_small c.args.c.now.terms c.args.factor c.loop-at.at c.term-lit.result c.term-lit.ensures in
    let fits = c.requires.small in
    let before = c.loop-at.invariant.terms.coefficients in
    omega arith

pub overflow_add-added : goal.overflow_add-added
overflow_add-added c =
    let small = multiple_small c.args.c.now.terms c.args.factor c.loop-at.at c.term-lit.result c.term-lit.ensures in
    let fits = c.requires.small in
    let before = c.loop-at.invariant.total in
    omega arith

pub overflow_add-cancelled : goal.overflow_add-cancelled
overflow_add-cancelled c =
    let small = multiple_small c.args.c.now.terms c.args.factor c.loop-at.at c.term-lit.result c.term-lit.ensures in
    let fits = c.requires.small in
    let before = c.loop-at.invariant.terms.coefficients in
    let next = c.in_ok-gone.ensures.coefficients in
    omega arith

pub loop-at-preserved : goal.loop-at-preserved
loop-at-preserved c = record {
  total = let next = multiple_total c.args.c.now.terms c.args.factor c.loop-at.at c.term-lit.result c.term-lit.ensures in let before = c.loop-at.invariant.total in omega arith;
  terms = multiple_more _ c.args.c.now.terms _ _ c.args.factor c.loop-at.at c.term-lit.result c.loop-at.cancelled c.in_ok-gone.gone c.term-lit.ensures c.loop-at.invariant.terms c.in_ok-gone.ensures;
}
