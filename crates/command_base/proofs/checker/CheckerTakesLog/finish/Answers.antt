use Rattle.std.proofs.Common.{◌∙◌, sym}
use Rattle.command_base.proofs.CheckerLaws.{judges_alike, refusal_is}
use Rattle.command_base.proofs.checker.CheckerTakesLog.finish.Goals as goal

pub returns-clause-subject : goal.returns-clause-subject
returns-clause-subject c = judges_alike c.args.self.now c.finish.new.self c.finish.ensures.problem c.finish.ensures.vectors

pub returns-clause-refused : goal.returns-clause-refused
returns-clause-refused c = λ k why is. c.finish.ensures.refused k why (refusal_is c.finish.result k why (sym c.line_answer.ensures ∙ is))
