use Rattle.proof_text.proofs.Logs.{spelled_once}
use Rattle.proof_text.proofs.laws.one_log.Goals as goal

pub returns : goal.returns
returns c = spelled_once
