use Rattle.cdcl_laws.proofs.Fitting.{fits_law}
use Rattle.cdcl_laws.proofs.storing.reached_state_fits.Goals as goal

pub returns : goal.returns
returns c = fits_law
