use Rattle.pb_lin.proofs.ClosedLengths.{closed_at_any_length}
use Rattle.pb_lin.proofs.propagation.closed_at_any_length.Goals as goal

pub returns : goal.returns
returns c = closed_at_any_length
