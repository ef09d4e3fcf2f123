use Rattle.cdcl_state.proofs.OrderTrails.{waiting_cut}
use Rattle.cdcl_state.proofs.waiting_laws.cut_keeps_waiting.Goals as goal

pub returns : goal.returns
returns c = waiting_cut
