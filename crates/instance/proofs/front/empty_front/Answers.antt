use Rattle.instance.proofs.EmptyFront.{empty_exactly}
use Rattle.instance.proofs.front.empty_front.Goals as goal

pub returns : goal.returns
returns c = empty_exactly
