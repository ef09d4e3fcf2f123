use Rattle.pb_lin.proofs.Variables.{under_upto}
use Rattle.pb_lin.proofs.substitution.substitution_variables.Goals as goal

pub returns : goal.returns
returns c = under_upto
