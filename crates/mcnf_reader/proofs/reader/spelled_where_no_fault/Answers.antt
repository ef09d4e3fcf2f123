use Rattle.mcnf_reader.proofs.TextFaults.{spelled_without_fault}
use Rattle.mcnf_reader.proofs.reader.spelled_where_no_fault.Goals as goal

pub returns : goal.returns
returns c = spelled_without_fault
