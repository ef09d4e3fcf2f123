use Rattle.command_models.proofs.Acceptable.{listed_law}
use Rattle.command_models.proofs.laws.listed_are_acceptable.Goals as goal

pub returns : goal.returns
returns c = listed_law
