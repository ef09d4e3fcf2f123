use Rattle.pb_lin.proofs.Unique.{unique}
use Rattle.pb_lin.proofs.normal.normal_form_is_unique.Goals as goal

pub returns : goal.returns
returns c = unique
