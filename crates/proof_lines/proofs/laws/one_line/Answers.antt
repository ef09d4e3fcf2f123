use Rattle.proof_lines.proofs.OneLine.{one_line_of}
use Rattle.proof_lines.proofs.laws.one_line.Goals as goal

pub returns : goal.returns
returns c = one_line_of
