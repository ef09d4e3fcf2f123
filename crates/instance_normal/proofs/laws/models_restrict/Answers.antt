use Rattle.instance_normal.proofs.Models.{model_restricts}
use Rattle.instance_normal.proofs.laws.models_restrict.Goals as goal

pub returns : goal.returns
returns c = model_restricts
