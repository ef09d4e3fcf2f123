use Rattle.std.specs.Prelude.{[]}
use Rattle.command_trim.proofs.Tokens.{value_simulated}
use Rattle.command_trim.proofs.trimming_laws.tokens_are_simulated.Goals as goal

pub returns : goal.returns
returns c = λ r s t negated denied tokens d. value_simulated r s t negated denied tokens [] d
