use Rattle.proof_laws.proofs.NextKept.{ended_law}
use Rattle.proof_laws.proofs.covering.ended_is_empty.Goals as goal

pub returns : goal.returns
returns c = ended_law
