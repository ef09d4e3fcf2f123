use Rattle.instance_normal.proofs.OneForm.{one_form}
use Rattle.instance_normal.proofs.laws.one_normal_form.Goals as goal

pub returns : goal.returns
returns c = one_form
