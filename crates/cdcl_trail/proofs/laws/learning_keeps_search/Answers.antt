use Rattle.cdcl_trail.proofs.Learned.{learning_law}
use Rattle.cdcl_trail.proofs.laws.learning_keeps_search.Goals as goal

pub returns : goal.returns
returns c = learning_law
