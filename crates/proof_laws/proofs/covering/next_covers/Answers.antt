use Rattle.proof_laws.proofs.NextKept.{next_covers_law}
use Rattle.proof_laws.proofs.covering.next_covers.Goals as goal

pub returns : goal.returns
returns c = next_covers_law
