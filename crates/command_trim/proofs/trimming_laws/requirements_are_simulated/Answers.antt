use Rattle.command_trim.proofs.Requirements.{redundance_met, dominance_met}
use Rattle.command_trim.proofs.trimming_laws.requirements_are_simulated.Goals as goal

pub returns-clause-redundance : goal.returns-clause-redundance
returns-clause-redundance c = λ r n k s t d proofs w p is vars positive carried live fault. redundance_met r n k is s t vars positive d proofs carried live w p fault

pub returns-clause-dominance : goal.returns-clause-dominance
returns-clause-dominance c = λ r n k s t d proofs w p is vars positive carried rows fault. dominance_met r n k is s t vars positive d proofs carried p w rows fault
