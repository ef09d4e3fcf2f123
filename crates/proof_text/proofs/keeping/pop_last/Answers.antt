use Rattle.proof_text.proofs.LogFiles.{pop_after_push}
use Rattle.proof_text.proofs.keeping.pop_last.Goals as goal

pub returns : goal.returns
returns c before line pushed = pop_after_push before _ _ line c.pop.result pushed c.pop.ensures
