-- By the lines that stay.
use Rattle.totalizer.proofs.LawsKept.{reform_stays_law}
use Rattle.totalizer.proofs.laws.reform_stays.Goals as goal

pub returns : goal.returns
returns c = reform_stays_law
