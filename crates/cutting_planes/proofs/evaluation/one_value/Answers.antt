use Rattle.cutting_planes.proofs.OneValue.{at_most_one}
use Rattle.cutting_planes.proofs.evaluation.one_value.Goals as goal

pub returns : goal.returns
returns c = at_most_one
