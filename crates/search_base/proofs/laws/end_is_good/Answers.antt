use Rattle.search_base.proofs.GoodBut.{end_law}
use Rattle.search_base.proofs.laws.end_is_good.Goals as goal

pub returns : goal.returns
returns c = end_law
