use Rattle.search_base.proofs.DerivedLines.{deriving_law}
use Rattle.search_base.proofs.laws.deriving_stays_good.Goals as goal

pub returns : goal.returns
returns c = deriving_law c.own_lines_stay.ensures c.fitting_stays.ensures c.reform_stays.ensures
