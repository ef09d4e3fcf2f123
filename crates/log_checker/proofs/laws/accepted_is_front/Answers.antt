use Rattle.log_checker.proofs.AcceptedFront.{accepted_front}
use Rattle.log_checker.proofs.laws.accepted_is_front.Goals as goal

pub returns : goal.returns
returns c = accepted_front
