use Rattle.mopb_reader.proofs.Faultless.{spelled_faultless}
use Rattle.mopb_reader.proofs.reader.no_fault_where_spelled.Goals as goal

pub returns : goal.returns
returns c = spelled_faultless
