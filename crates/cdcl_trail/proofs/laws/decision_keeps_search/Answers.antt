use Rattle.cdcl_trail.proofs.Pushes.{decision_law}
use Rattle.cdcl_trail.proofs.laws.decision_keeps_search.Goals as goal

pub returns : goal.returns
returns c = decision_law
