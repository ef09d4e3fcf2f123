use Rattle.std.proofs.Common.{length}
use Rattle.cdcl_state.proofs.OrderWaiting.{IsSeeking}
use Rattle.cdcl_state.proofs.order.VariableOrder.next.Given as goal

abbrev pub invariant-loop-lit : goal.invariant-loop-lit
invariant-loop-lit l = IsSeeking l.fn.self l.self l.trail

abbrev pub decreases-loop-lit : goal.decreases-loop-lit
decreases-loop-lit l = length l.self.waiting
