use Rattle.command_elaborate.proofs.Lists.{goes_on_law}
use Rattle.command_elaborate.proofs.hint_laws.elaboration_goes_on.Goals as goal

pub returns : goal.returns
returns c = goes_on_law
