use Rattle.std.proofs.Common.{◌+◌, arith}
use Rattle.cdcl_state.proofs.OrderWaiting.{below_twice, order_halved}
use Rattle.cdcl_state.proofs.order.VariableOrder.end_conflict.Goals as goal

pub invariant_of-self : goal.invariant_of-self
invariant_of-self c =
    let i = c.self.inside in
    order_halved i.heap c.halve.new.self i.phases.items (i.step + c.max.result) c.half_step-self-inside.result c.self.invariant.phased (below_twice i.heap.activities c.self.invariant.below) (omega (arith, c.self.invariant.small, c.max.ensures)) c.self.invariant.room c.halve.ensures.halved c.half_step-self-inside.ensures c.halve.ensures.ordered
