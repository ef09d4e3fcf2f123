use Rattle.cdcl_laws.proofs.Earned.{new_law}
use Rattle.cdcl_laws.proofs.earning.stored_unit_is_new.Goals as goal

pub returns : goal.returns
returns c = new_law
