use Rattle.cdcl_trail.proofs.Stores.{cut_law}
use Rattle.cdcl_trail.proofs.laws.cut_keeps_search.Goals as goal

pub returns : goal.returns
returns c = cut_law
