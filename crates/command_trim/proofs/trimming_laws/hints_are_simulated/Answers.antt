use Rattle.command_trim.proofs.Hints.{hints_simulated}
use Rattle.command_trim.proofs.trimming_laws.hints_are_simulated.Goals as goal

pub returns : goal.returns
returns c = hints_simulated
