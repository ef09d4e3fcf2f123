use Rattle.log_checker.proofs.ListLaws.{right_has_no_fault}
use Rattle.log_checker.proofs.laws.no_list_fault_where_right.Goals as goal

pub returns : goal.returns
returns c = λ i list entries k why short. right_has_no_fault i list short entries k why
