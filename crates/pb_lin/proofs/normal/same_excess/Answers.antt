use Rattle.pb_lin.proofs.Unique.{equal_excess}
use Rattle.pb_lin.proofs.normal.same_excess.Goals as goal

pub returns : goal.returns
returns c = equal_excess
