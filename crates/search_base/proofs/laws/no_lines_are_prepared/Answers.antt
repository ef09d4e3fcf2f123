use Rattle.search_base.proofs.Beginning.{no_lines_law}
use Rattle.search_base.proofs.laws.no_lines_are_prepared.Goals as goal

pub returns : goal.returns
returns c = no_lines_law
