use Rattle.search_base.proofs.LoggedVectors.{reached_law}
use Rattle.search_base.proofs.laws.logged_is_reached.Goals as goal

pub returns : goal.returns
returns c = reached_law
