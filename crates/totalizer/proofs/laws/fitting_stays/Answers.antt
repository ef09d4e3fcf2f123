-- By the lines that stay.
use Rattle.totalizer.proofs.LawsKept.{fitting_stays_law}
use Rattle.totalizer.proofs.laws.fitting_stays.Goals as goal

pub returns : goal.returns
returns c = fitting_stays_law
