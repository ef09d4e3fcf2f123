use Rattle.cdcl_laws.proofs.Stored.{normal_law}
use Rattle.cdcl_laws.proofs.storing.stored_lines_are_normal.Goals as goal

pub returns : goal.returns
returns c = normal_law
