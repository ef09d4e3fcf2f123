use Rattle.cdcl_laws.proofs.Stored.{learned_law}
use Rattle.cdcl_laws.proofs.storing.learned_line_is_stored.Goals as goal

pub returns-clause-stored : goal.returns-clause-stored
returns-clause-stored c = learned_law
