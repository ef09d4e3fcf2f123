use Rattle.search_base.proofs.TurnLines.{join_law}
use Rattle.search_base.proofs.laws.turn_lines_join.Goals as goal

pub returns : goal.returns
returns c = join_law
