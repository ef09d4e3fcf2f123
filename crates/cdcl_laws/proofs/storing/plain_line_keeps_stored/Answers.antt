use Rattle.cdcl_laws.proofs.Stored.{plain_law}
use Rattle.cdcl_laws.proofs.storing.plain_line_keeps_stored.Goals as goal

pub returns : goal.returns
returns c = plain_law
