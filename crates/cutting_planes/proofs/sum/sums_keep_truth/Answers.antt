use Rattle.cutting_planes.proofs.Terms.{sum_holds}
use Rattle.cutting_planes.proofs.sum.sums_keep_truth.Goals as goal

pub returns : goal.returns
returns c = λ r p q sum a. sum_holds a r p q sum
