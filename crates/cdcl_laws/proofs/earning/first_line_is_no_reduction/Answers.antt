use Rattle.cdcl_laws.proofs.Counts.{first_law}
use Rattle.cdcl_laws.proofs.earning.first_line_is_no_reduction.Goals as goal

pub returns : goal.returns
returns c = first_law
