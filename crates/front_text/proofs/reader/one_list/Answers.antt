use Rattle.front_text.proofs.Texts.{one_list_of}
use Rattle.front_text.proofs.reader.one_list.Goals as goal

pub returns : goal.returns
returns c = one_list_of
