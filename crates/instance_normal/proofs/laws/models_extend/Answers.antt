use Rattle.instance_normal.proofs.Models.{model_extends}
use Rattle.instance_normal.proofs.laws.models_extend.Goals as goal

pub returns : goal.returns
returns c = model_extends
