use Rattle.proof_laws.proofs.NextKept.{next_fits_law}
use Rattle.proof_laws.proofs.covering.next_fits.Goals as goal

pub returns : goal.returns
returns c = next_fits_law
