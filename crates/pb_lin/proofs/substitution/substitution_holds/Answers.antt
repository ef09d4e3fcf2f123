use Rattle.pb_lin.proofs.Laws.{Holds-under}
use Rattle.pb_lin.proofs.substitution.substitution_holds.Goals as goal

pub returns : goal.returns
returns c = Holds-under
