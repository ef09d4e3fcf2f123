use Rattle.pb_lin.proofs.Laws.{Holds-restriction}
use Rattle.pb_lin.proofs.restriction.restriction_holds.Goals as goal

pub returns : goal.returns
returns c = Holds-restriction
