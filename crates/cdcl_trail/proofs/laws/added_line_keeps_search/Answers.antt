use Rattle.cdcl_trail.proofs.Stores.{added_line_law}
use Rattle.cdcl_trail.proofs.laws.added_line_keeps_search.Goals as goal

pub returns : goal.returns
returns c = added_line_law
