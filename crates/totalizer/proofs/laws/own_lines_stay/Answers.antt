-- Line by line.
use Rattle.totalizer.proofs.OwnLines.{own_lines_stay_law}
use Rattle.totalizer.proofs.laws.own_lines_stay.Goals as goal

pub returns : goal.returns
returns c = own_lines_stay_law
