use Rattle.search_base.proofs.GoodBut.{none_law}
use Rattle.search_base.proofs.laws.good_but_for_none.Goals as goal

pub returns : goal.returns
returns c = none_law
