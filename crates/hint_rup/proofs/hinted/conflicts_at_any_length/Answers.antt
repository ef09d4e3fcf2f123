use Rattle.hint_rup.proofs.Lengths.{conflicts_at_length}
use Rattle.hint_rup.proofs.hinted.conflicts_at_any_length.Goals as goal

pub returns : goal.returns
returns c = conflicts_at_length
