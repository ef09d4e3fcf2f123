use Rattle.cdcl_state.proofs.OrderTrails.{waiting_longer}
use Rattle.cdcl_state.proofs.waiting_laws.longer_trail_keeps_waiting.Goals as goal

pub returns : goal.returns
returns c = waiting_longer
