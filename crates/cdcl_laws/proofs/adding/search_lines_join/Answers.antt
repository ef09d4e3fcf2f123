use Rattle.cdcl_laws.proofs.SearchLines.{none_law, learned_law, reduced_law, implied_law, joined_law, then_law}
use Rattle.cdcl_laws.proofs.adding.search_lines_join.Goals as goal

pub returns-clause-none : goal.returns-clause-none
returns-clause-none c = none_law

pub returns-clause-learned : goal.returns-clause-learned
returns-clause-learned c = learned_law

pub returns-clause-reduced : goal.returns-clause-reduced
returns-clause-reduced c = reduced_law

pub returns-clause-implied : goal.returns-clause-implied
returns-clause-implied c = implied_law

pub returns-clause-joined : goal.returns-clause-joined
returns-clause-joined c = joined_law

pub returns-clause-then_any : goal.returns-clause-then_any
returns-clause-then_any c = then_law
