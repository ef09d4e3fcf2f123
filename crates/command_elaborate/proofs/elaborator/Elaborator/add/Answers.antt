use Rattle.command_elaborate.proofs.Opened.{answered_itself}
use Rattle.command_elaborate.proofs.elaborator.Elaborator.add.Goals as goal

pub returns-clause-itself : goal.returns-clause-itself
returns-clause-itself c = λ hinted. answered_itself _ _ c.add_line.new.state c.args.line.now c.add_line.result hinted c.add_line.ensures.added
