use Rattle.representatives.proofs.Faults.{no_fault_law}
use Rattle.representatives.proofs.laws.no_fault_where_serving.Goals as goal

pub returns : goal.returns
returns c = no_fault_law
