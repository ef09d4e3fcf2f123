-- By the state that the lines so far reach.
use Rattle.sum_outputs.proofs.PolLines.{sum_may_be_added_law}
use Rattle.sum_outputs.proofs.laws.sum_may_be_added.Goals as goal

pub returns : goal.returns
returns c = sum_may_be_added_law
