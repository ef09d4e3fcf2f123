use Rattle.cdcl_laws.proofs.Stored.{deleting_law}
use Rattle.cdcl_laws.proofs.storing.deleting_line_keeps_stored.Goals as goal

pub returns : goal.returns
returns c = deleting_law
