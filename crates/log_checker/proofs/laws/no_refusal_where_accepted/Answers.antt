use Rattle.log_checker.proofs.Unrefused.{accepted_unrefused}
use Rattle.log_checker.proofs.laws.no_refusal_where_accepted.Goals as goal

pub returns : goal.returns
returns c = accepted_unrefused
