use Rattle.search_base.proofs.GoodStates.{bounding_law}
use Rattle.search_base.proofs.laws.bounding_stays_good.Goals as goal

pub returns : goal.returns
returns c = bounding_law c.own_lines_stay.ensures
