use Rattle.cdcl_laws.proofs.Earned.{reduction_law}
use Rattle.cdcl_laws.proofs.earning.reduction_is_earned.Goals as goal

pub returns : goal.returns
returns c = reduction_law
