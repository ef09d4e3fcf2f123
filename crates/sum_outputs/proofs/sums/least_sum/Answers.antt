-- One list is gone through.
use Rattle.sum_outputs.proofs.SumLists.{less_first, less_next}
use Rattle.sum_outputs.proofs.sums.least_sum.Goals as goal

pub loop-first-init : goal.loop-first-init
loop-first-init c = less_first c.args.seconds.now c.args.k c.args.total c.less_of-least.result c.least_with.result c.requires.most c.least_with.ensures c.less_of-least.ensures

pub loop-first-preserved : goal.loop-first-preserved
loop-first-preserved c = less_next c.args.firsts.now c.args.seconds.now c.loop-first.first-index c.first-item.result c.args.k c.args.total c.loop-first.least c.less_of-least-in-loop-first.result c.least_with-in-loop-first.result c.first-item.is c.loop-first-test.true c.loop-first.invariant c.least_with-in-loop-first.ensures c.less_of-least-in-loop-first.ensures
