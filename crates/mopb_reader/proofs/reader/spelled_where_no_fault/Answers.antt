use Rattle.mopb_reader.proofs.Completions.{faultless_spelled}
use Rattle.mopb_reader.proofs.reader.spelled_where_no_fault.Goals as goal

pub returns : goal.returns
returns c = faultless_spelled
