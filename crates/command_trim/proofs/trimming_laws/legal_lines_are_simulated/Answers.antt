use Rattle.command_trim.proofs.Lines.{legal_simulated}
use Rattle.command_trim.proofs.trimming_laws.legal_lines_are_simulated.Goals as goal

pub returns : goal.returns
returns c = λ p r s t line sim state rows carried legal. legal_simulated p r s t sim state rows line carried legal
