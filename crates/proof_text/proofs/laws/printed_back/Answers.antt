use Rattle.proof_text.specs.Versions.{log_text}
use Rattle.proof_text.proofs.Logs.{printed_spells}
use Rattle.proof_text.proofs.laws.printed_back.Goals as goal

pub returns-clause-spells : goal.returns-clause-spells
returns-clause-spells c = printed_spells

pub returns-clause-alone : goal.returns-clause-alone
returns-clause-alone c first lines more version fit formed spells = c.one_log.ensures (log_text first lines) more lines spells (printed_spells first lines version fit formed)
