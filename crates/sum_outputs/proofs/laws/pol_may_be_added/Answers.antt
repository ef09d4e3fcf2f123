-- By the state that the lines so far reach.
use Rattle.sum_outputs.proofs.PolLines.{pol_may_be_added_law}
use Rattle.sum_outputs.proofs.laws.pol_may_be_added.Goals as goal

pub returns : goal.returns
returns c = pol_may_be_added_law
