use Rattle.search_base.proofs.TurnLines.{own_law}
use Rattle.search_base.proofs.laws.turn_lines_keep_own.Goals as goal

pub returns : goal.returns
returns c = own_law
