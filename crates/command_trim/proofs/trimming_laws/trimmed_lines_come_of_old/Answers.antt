use Rattle.command_trim.proofs.Subsequence.{trimmed_come}
use Rattle.command_trim.proofs.trimming_laws.trimmed_lines_come_of_old.Goals as goal

pub returns : goal.returns
returns c = trimmed_come
