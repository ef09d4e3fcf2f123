use Rattle.log_checker.proofs.Faults.{log_faults_same}
use Rattle.log_checker.proofs.laws.one_log_fault.Goals as goal

pub returns : goal.returns
returns c = log_faults_same
