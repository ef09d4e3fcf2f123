use Rattle.representatives.proofs.Served.{bounded_model_law}
use Rattle.representatives.proofs.laws.bounded_model_serves.Goals as goal

pub returns : goal.returns
returns c = bounded_model_law
