use Rattle.cutting_planes.proofs.Terms.{divided_holds}
use Rattle.cutting_planes.proofs.scale.quotients_are_implied.Goals as goal

pub returns : goal.returns
returns c = λ k d from_one a. divided_holds a k d from_one
