use Rattle.cutting_planes.proofs.Terms.{saturated_holds}
use Rattle.cutting_planes.proofs.scale.saturation_is_implied.Goals as goal

pub returns : goal.returns
returns c = λ d a. saturated_holds a d
