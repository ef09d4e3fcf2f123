use Rattle.pb_lin.proofs.Variables.{normal_form_upto}
use Rattle.pb_lin.proofs.normal.normal_form_variables.Goals as goal

pub returns : goal.returns
returns c = normal_form_upto
