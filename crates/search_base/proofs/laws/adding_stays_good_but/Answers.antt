use Rattle.search_base.proofs.GoodBut.{adding_but_law}
use Rattle.search_base.proofs.laws.adding_stays_good_but.Goals as goal

pub returns : goal.returns
returns c = adding_but_law c.own_lines_stay.ensures c.fitting_stays.ensures c.reform_stays.ensures
