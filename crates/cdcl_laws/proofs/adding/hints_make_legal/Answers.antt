use Rattle.cdcl_laws.proofs.Hinted.{formed_law, learned_law, implied_law}
use Rattle.cdcl_laws.proofs.NeverLong.{short_law}
use Rattle.cdcl_laws.proofs.adding.hints_make_legal.Goals as goal

pub returns-clause-formed : goal.returns-clause-formed
returns-clause-formed c = formed_law

pub returns-clause-learned : goal.returns-clause-learned
returns-clause-learned c = learned_law

pub returns-clause-implied : goal.returns-clause-implied
returns-clause-implied c = implied_law

pub returns-clause-unless_long : goal.returns-clause-unless_long
returns-clause-unless_long c = short_law
