use Rattle.log_checker.proofs.Faults.{ended_has_no_fault}
use Rattle.log_checker.proofs.laws.no_log_fault_where_ended.Goals as goal

pub returns : goal.returns
returns c = ended_has_no_fault
