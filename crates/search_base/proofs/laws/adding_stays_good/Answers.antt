use Rattle.search_base.proofs.AddedLines.{adding_law}
use Rattle.search_base.proofs.laws.adding_stays_good.Goals as goal

pub returns : goal.returns
returns c = adding_law c.own_lines_stay.ensures c.fitting_stays.ensures c.reform_stays.ensures
