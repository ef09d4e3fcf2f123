-- By the lines that stay.
use Rattle.totalizer.proofs.LawsKept.{bounds_stay_law}
use Rattle.totalizer.proofs.laws.bounds_stay.Goals as goal

pub returns : goal.returns
returns c = bounds_stay_law
