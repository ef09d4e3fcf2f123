use Rattle.cdcl_state.proofs.HeapSteps.{IsRising}
use Rattle.cdcl_state.proofs.heap.VariableHeap.sift_up.Given as goal

abbrev pub invariant-loop-above : goal.invariant-loop-above
invariant-loop-above l = IsRising l.fn.self l.self l.at

abbrev pub decreases-loop-above : goal.decreases-loop-above
decreases-loop-above l = l.at
