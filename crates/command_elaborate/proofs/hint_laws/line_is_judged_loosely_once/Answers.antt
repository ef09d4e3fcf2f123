use Rattle.command_elaborate.proofs.Judged.{judged_loosely_law}
use Rattle.command_elaborate.proofs.hint_laws.line_is_judged_loosely_once.Goals as goal

pub returns : goal.returns
returns c = judged_loosely_law
