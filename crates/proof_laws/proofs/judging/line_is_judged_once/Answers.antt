use Rattle.proof_laws.proofs.Unique.{judged_once_law}
use Rattle.proof_laws.proofs.judging.line_is_judged_once.Goals as goal

pub returns : goal.returns
returns c = judged_once_law
