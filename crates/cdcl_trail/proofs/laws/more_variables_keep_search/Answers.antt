use Rattle.cdcl_trail.proofs.Wider.{more_variables_law}
use Rattle.cdcl_trail.proofs.laws.more_variables_keep_search.Goals as goal

pub returns : goal.returns
returns c = more_variables_law
