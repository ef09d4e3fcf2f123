use Rattle.std.proofs.Common.{◌-◌}
use Rattle.cdcl_state.proofs.HeapSteps.{IsSinking}
use Rattle.cdcl_state.proofs.heap.VariableHeap.sift_down.Given as goal

abbrev pub invariant-loop-child : goal.invariant-loop-child
invariant-loop-child l = IsSinking l.fn.self l.self l.at

abbrev pub decreases-loop-child : goal.decreases-loop-child
decreases-loop-child l = l.self.count - l.at
