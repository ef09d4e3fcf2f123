-- Line 0 says that 0 is at least 0.
use Rattle.totalizer.proofs.OwnReforms.{own_terms_serve_law}
use Rattle.totalizer.proofs.laws.own_terms_serve.Goals as goal

pub returns : goal.returns
returns c = own_terms_serve_law
