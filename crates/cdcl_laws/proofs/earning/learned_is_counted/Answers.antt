use Rattle.cdcl_laws.proofs.Counts.{counted_law}
use Rattle.cdcl_laws.proofs.earning.learned_is_counted.Goals as goal

pub returns : goal.returns
returns c = counted_law
