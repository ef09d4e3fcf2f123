use Rattle.cdcl_state.proofs.OrderTrails.{waiting_grown}
use Rattle.cdcl_state.proofs.waiting_laws.growth_keeps_waiting.Goals as goal

pub returns : goal.returns
returns c = waiting_grown
