use Rattle.mopb_reader.proofs.Texts.{one_spelled}
use Rattle.mopb_reader.proofs.reader.one_instance.Goals as goal

pub returns : goal.returns
returns c = one_spelled
