use Rattle.cdcl_trail.proofs.Jumps.{shorter_law, closed_law, unit_law}
use Rattle.cdcl_trail.proofs.laws.jump_closes.Goals as goal

pub returns-clause-shorter : goal.returns-clause-shorter
returns-clause-shorter c = shorter_law

pub returns-clause-closed : goal.returns-clause-closed
returns-clause-closed c = closed_law

pub returns-clause-unit : goal.returns-clause-unit
returns-clause-unit c = unit_law
