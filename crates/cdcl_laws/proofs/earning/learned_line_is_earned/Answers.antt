use Rattle.cdcl_laws.proofs.Earned.{learned_law}
use Rattle.cdcl_laws.proofs.earning.learned_line_is_earned.Goals as goal

pub returns : goal.returns
returns c = learned_law
