use Rattle.proof_text.proofs.Logs.{wrong_once}
use Rattle.proof_text.proofs.laws.one_fault.Goals as goal

pub returns : goal.returns
returns c = wrong_once
