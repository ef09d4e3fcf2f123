use Rattle.pb_lin.proofs.Laws.{Implies-covers}
use Rattle.pb_lin.proofs.cover.covering_implies.Goals as goal

pub returns : goal.returns
returns c = Implies-covers
