use Rattle.representatives.proofs.Faults.{one_fault_law}
use Rattle.representatives.proofs.laws.one_reps_fault.Goals as goal

pub returns : goal.returns
returns c = one_fault_law
