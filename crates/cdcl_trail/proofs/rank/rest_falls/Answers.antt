use Rattle.cdcl_trail.proofs.Ranks.{higher_law, restarted_law}
use Rattle.cdcl_trail.proofs.rank.rest_falls.Goals as goal

pub returns-clause-higher : goal.returns-clause-higher
returns-clause-higher c = higher_law

pub returns-clause-restarted : goal.returns-clause-restarted
returns-clause-restarted c = restarted_law
