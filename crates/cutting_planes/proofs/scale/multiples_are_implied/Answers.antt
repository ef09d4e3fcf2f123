use Rattle.cutting_planes.proofs.Terms.{multiplied_holds}
use Rattle.cutting_planes.proofs.scale.multiples_are_implied.Goals as goal

pub returns : goal.returns
returns c = λ k d a. multiplied_holds a k d
