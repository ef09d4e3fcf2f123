use Rattle.command_elaborate.proofs.Replays.{elaborated_law}
use Rattle.command_elaborate.proofs.hint_laws.elaborated_lines_replay_loosely.Goals as goal

pub returns : goal.returns
returns c = elaborated_law
