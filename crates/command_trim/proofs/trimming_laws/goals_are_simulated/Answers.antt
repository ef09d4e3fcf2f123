use Rattle.command_trim.proofs.Goals.{goal_simulated}
use Rattle.command_trim.proofs.trimming_laws.goals_are_simulated.Goals as goal

pub returns : goal.returns
returns c = λ r n k s t d proofs q is vars positive carried kept fault. goal_simulated r n k is s t vars positive d proofs q carried kept fault
