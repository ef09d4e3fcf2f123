use Rattle.search_base.proofs.Beginning.{beginning_law}
use Rattle.search_base.proofs.laws.beginning_is_good.Goals as goal

pub returns : goal.returns
returns c = beginning_law
