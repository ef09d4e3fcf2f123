use Rattle.front_text.proofs.ModelsTexts.{right_everywhere}
use Rattle.front_text.proofs.models_reader.no_models_fault_where_spelled.Goals as goal

pub returns : goal.returns
returns c = right_everywhere
