use Rattle.cdcl_trail.proofs.Stores.{empty_law}
use Rattle.cdcl_trail.proofs.laws.empty_trail_is_search.Goals as goal

pub returns : goal.returns
returns c = empty_law
