use Rattle.mcnf_reader.proofs.TextFaults.{no_fault}
use Rattle.mcnf_reader.proofs.reader.no_fault_where_spelled.Goals as goal

pub returns : goal.returns
returns c = no_fault
