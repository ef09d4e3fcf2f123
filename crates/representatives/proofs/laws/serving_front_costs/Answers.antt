use Rattle.representatives.proofs.Served.{front_served_law}
use Rattle.representatives.proofs.laws.serving_front_costs.Goals as goal

pub returns : goal.returns
returns c = front_served_law
