use Rattle.pb_lin.proofs.Laws.{Holds-normal_form}
use Rattle.pb_lin.proofs.normal.normal_form_holds.Goals as goal

pub returns : goal.returns
returns c = Holds-normal_form
