use Rattle.command_elaborate.proofs.Flat.{undecided_law}
use Rattle.command_elaborate.proofs.hint_laws.flat_trail_is_undecided.Goals as goal

pub returns : goal.returns
returns c = undecided_law
