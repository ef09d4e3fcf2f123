use Rattle.front_text.proofs.ModelsTexts.{one_fault_of}
use Rattle.front_text.proofs.models_reader.one_models_fault.Goals as goal

pub returns : goal.returns
returns c = one_fault_of
