use Rattle.command_elaborate.proofs.Lists.{elaborations_law}
use Rattle.command_elaborate.proofs.hint_laws.elaborations_replay.Goals as goal

pub returns : goal.returns
returns c = elaborations_law
