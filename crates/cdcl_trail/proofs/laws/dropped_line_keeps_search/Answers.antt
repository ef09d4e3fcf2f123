use Rattle.cdcl_trail.proofs.Stores.{dropped_line_law}
use Rattle.cdcl_trail.proofs.laws.dropped_line_keeps_search.Goals as goal

pub returns : goal.returns
returns c = dropped_line_law
