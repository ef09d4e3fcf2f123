use Rattle.command_elaborate.proofs.Flat.{longer_law, shorter_law}
use Rattle.command_elaborate.proofs.hint_laws.flat_trail_stays.Goals as goal

pub returns-clause-longer : goal.returns-clause-longer
returns-clause-longer c = longer_law

pub returns-clause-shorter : goal.returns-clause-shorter
returns-clause-shorter c = shorter_law
