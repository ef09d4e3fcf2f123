use Rattle.command_trim.proofs.Kept.{trimmed_law}
use Rattle.command_trim.proofs.Example.{worked_row}
use Rattle.command_trim.proofs.trimming_laws.trimmed_proof_replays.Goals as goal

pub returns : goal.returns
returns c = let row = worked_row in trimmed_law
