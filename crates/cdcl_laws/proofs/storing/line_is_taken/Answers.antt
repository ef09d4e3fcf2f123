use Rattle.cdcl_laws.proofs.Stored.{taken_law}
use Rattle.cdcl_laws.proofs.storing.line_is_taken.Goals as goal

pub returns-clause-stored : goal.returns-clause-stored
returns-clause-stored c = taken_law
