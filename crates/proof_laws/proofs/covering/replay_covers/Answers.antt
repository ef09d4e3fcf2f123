use Rattle.proof_laws.proofs.NextKept.{replay_law}
use Rattle.proof_laws.proofs.covering.replay_covers.Goals as goal

pub returns : goal.returns
returns c = replay_law
