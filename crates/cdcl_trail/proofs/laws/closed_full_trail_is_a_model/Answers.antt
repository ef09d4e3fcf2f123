use Rattle.cdcl_trail.proofs.Models.{model_law}
use Rattle.cdcl_trail.proofs.laws.closed_full_trail_is_a_model.Goals as goal

pub returns : goal.returns
returns c = model_law
