use Rattle.std.proofs.Common.{◌∙◌, sym}
use Rattle.command_base.proofs.CheckerLaws.{judges_alike, refusal_is, taken_where}
use Rattle.command_base.proofs.checker.CheckerTakesLog.feed.Goals as goal

pub returns-clause-subject : goal.returns-clause-subject
returns-clause-subject c = judges_alike c.args.self.now c.feed.new.self c.feed.ensures.problem c.feed.ensures.vectors

pub returns-clause-refused : goal.returns-clause-refused
returns-clause-refused c = λ k why is. c.feed.ensures.refused k why (refusal_is c.feed.result k why (sym c.line_answer.ensures ∙ is))

pub returns-clause-passed : goal.returns-clause-passed
returns-clause-passed c = taken_where _ c.feed.result c.line_answer.result c.line_answer.ensures c.feed.ensures.passed
