use Rattle.cutting_planes.proofs.Terms.{weakened_holds}
use Rattle.cutting_planes.proofs.weaken.weakening_is_implied.Goals as goal

pub returns : goal.returns
returns c = λ var d a. weakened_holds a var d
