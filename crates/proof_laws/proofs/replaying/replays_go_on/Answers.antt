use Rattle.proof_laws.proofs.Replays.{replays_law}
use Rattle.proof_laws.proofs.replaying.replays_go_on.Goals as goal

pub returns : goal.returns
returns c = replays_law
