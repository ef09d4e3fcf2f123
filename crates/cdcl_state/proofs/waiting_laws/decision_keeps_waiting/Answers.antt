use Rattle.cdcl_state.proofs.OrderTrails.{waiting_decided}
use Rattle.cdcl_state.proofs.waiting_laws.decision_keeps_waiting.Goals as goal

pub returns : goal.returns
returns c = waiting_decided
