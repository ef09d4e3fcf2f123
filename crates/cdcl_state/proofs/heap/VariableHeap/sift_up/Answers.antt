use Rattle.cdcl_state.proofs.HeapSteps.{rising, same_heap}
use Rattle.cdcl_state.proofs.heap.VariableHeap.sift_up.Goals as goal

pub loop-above-init : goal.loop-above-init
loop-above-init c = record { within = c.requires.within; room = c.requires.room; ordered = c.requires.ordered; same = same_heap c.args.self.now }

pub loop-above-preserved : goal.loop-above-preserved
loop-above-preserved c = rising c.args.self.now c.loop-above.self c.swap.new.self c.loop-above.at c.in-Some.above c.loop-above.invariant c.in-Some.ensures c.swap.ensures
