use Rattle.cutting_planes.proofs.Within.{value_upto}
use Rattle.cutting_planes.proofs.evaluation.value_variables.Goals as goal

pub returns : goal.returns
returns c = value_upto
