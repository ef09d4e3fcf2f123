use Rattle.cdcl_state.proofs.HeapSteps.{sinking, same_heap}
use Rattle.cdcl_state.proofs.heap.VariableHeap.sift_down.Goals as goal

pub loop-child-init : goal.loop-child-init
loop-child-init c = record { room = c.requires.room; ordered = c.requires.ordered; same = same_heap c.args.self.now }

pub loop-child-preserved : goal.loop-child-preserved
loop-child-preserved c = sinking c.args.self.now c.loop-child.self c.swap.new.self c.loop-child.at c.in-Some.child c.loop-child.invariant c.in-Some.ensures c.swap.ensures
