use Rattle.log_checker.proofs.ListLaws.{list_faults_same}
use Rattle.log_checker.proofs.laws.one_list_fault.Goals as goal

pub returns : goal.returns
returns c = λ i list k j why other short. list_faults_same i list short k j why other
