use Rattle.proof_text.proofs.Logs.{never_wrong, never_unfinished}
use Rattle.proof_text.proofs.laws.no_fault_where_spelled.Goals as goal

pub returns-clause-wrong : goal.returns-clause-wrong
returns-clause-wrong c = never_wrong

pub returns-clause-unfinished : goal.returns-clause-unfinished
returns-clause-unfinished c = never_unfinished
