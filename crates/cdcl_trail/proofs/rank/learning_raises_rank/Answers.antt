use Rattle.cdcl_trail.proofs.Ranks.{learning_raises}
use Rattle.cdcl_trail.proofs.rank.learning_raises_rank.Goals as goal

pub returns : goal.returns
returns c = learning_raises
