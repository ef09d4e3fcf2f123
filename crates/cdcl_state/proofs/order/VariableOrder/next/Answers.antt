use Rattle.cdcl_state.proofs.OrderWaiting.{none_open}
use Rattle.cdcl_state.proofs.order.VariableOrder.next.Goals as goal

pub returns-clause-none : goal.returns-clause-none
returns-clause-none c = none_open c.loop-lit.self c.args.trail.now c.loop-lit.invariant.waiting c.in_default.ensures.taken
