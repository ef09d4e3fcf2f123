use Rattle.core_boosting.proofs.Boosted.{boosted_stays_law}
use Rattle.core_boosting.proofs.laws.boosted_stays.Goals as goal

pub returns : goal.returns
returns c = boosted_stays_law
