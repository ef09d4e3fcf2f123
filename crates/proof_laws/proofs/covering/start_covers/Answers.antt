use Rattle.proof_laws.proofs.NextKept.{start_law}
use Rattle.proof_laws.proofs.covering.start_covers.Goals as goal

pub returns : goal.returns
returns c = start_law
