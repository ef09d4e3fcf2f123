use Rattle.cdcl_laws.proofs.Stored.{nothing_law}
use Rattle.cdcl_laws.proofs.storing.nothing_is_stored.Goals as goal

pub returns : goal.returns
returns c = nothing_law
