use Rattle.proof_laws.proofs.Judged.{judged_law}
use Rattle.proof_laws.proofs.judging.line_is_judged.Goals as goal

pub returns : goal.returns
returns c = judged_law
