use Rattle.search_base.proofs.GoodStates.{asking_law}
use Rattle.search_base.proofs.laws.asking_stays_good.Goals as goal

pub returns : goal.returns
returns c = asking_law c.own_lines_stay.ensures c.fitting_stays.ensures c.reform_stays.ensures
