use Rattle.cdcl_trail.proofs.Propagated.{propagation_law}
use Rattle.cdcl_trail.proofs.laws.propagation_keeps_search.Goals as goal

pub returns : goal.returns
returns c = propagation_law
