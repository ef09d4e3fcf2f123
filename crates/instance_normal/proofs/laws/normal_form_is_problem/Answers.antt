use Rattle.instance_normal.proofs.Fitted.{form_within}
use Rattle.instance_normal.proofs.laws.normal_form_is_problem.Goals as goal

pub returns : goal.returns
returns c = form_within
