use Rattle.front_text.proofs.ModelsTexts.{one_text_of}
use Rattle.front_text.proofs.models_reader.one_models_text.Goals as goal

pub returns : goal.returns
returns c = one_text_of
