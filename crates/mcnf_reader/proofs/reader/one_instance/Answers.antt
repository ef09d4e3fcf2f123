use Rattle.mcnf_reader.proofs.Texts.{one_spelled}
use Rattle.mcnf_reader.proofs.reader.one_instance.Goals as goal

pub returns : goal.returns
returns c = one_spelled
