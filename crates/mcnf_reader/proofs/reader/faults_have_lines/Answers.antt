use Rattle.mcnf_reader.proofs.FaultLines.{fault_has_line}
use Rattle.mcnf_reader.proofs.reader.faults_have_lines.Goals as goal

pub returns : goal.returns
returns c = fault_has_line
