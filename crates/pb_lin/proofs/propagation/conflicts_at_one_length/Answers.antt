use Rattle.pb_lin.proofs.ClosedLengths.{conflicts_at_one_length}
use Rattle.pb_lin.proofs.propagation.conflicts_at_one_length.Goals as goal

pub returns : goal.returns
returns c = conflicts_at_one_length
