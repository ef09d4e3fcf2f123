use Rattle.representatives.proofs.Served.{lists_all_law}
use Rattle.representatives.proofs.laws.ended_log_lists_all.Goals as goal

pub returns : goal.returns
returns c = lists_all_law
