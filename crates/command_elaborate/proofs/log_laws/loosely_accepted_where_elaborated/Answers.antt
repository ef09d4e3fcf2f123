use Rattle.command_elaborate.proofs.LooselyAccepted.{loosely_law}
use Rattle.command_elaborate.proofs.log_laws.loosely_accepted_where_elaborated.Goals as goal

pub returns : goal.returns
returns c = loosely_law
