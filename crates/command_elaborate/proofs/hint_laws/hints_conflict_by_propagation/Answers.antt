use Rattle.command_elaborate.proofs.Inside.{hints_conflict_law}
use Rattle.command_elaborate.proofs.hint_laws.hints_conflict_by_propagation.Goals as goal

pub returns : goal.returns
returns c = hints_conflict_law
