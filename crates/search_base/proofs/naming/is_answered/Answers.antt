use Rattle.std.proofs.Common.{sym, ◌∙◌}
use Rattle.search_base.proofs.NamedAnswers.{among_all}
use Rattle.search_base.proofs.naming.is_answered.Goals as goal

pub returns-then-is_its_literal : goal.returns-then-is_its_literal
returns-then-is_its_literal c =
    sym (among_all c.args.answers.now c.loop-answer.answer-index c.answer-item.result c.args.lit c.loop-answer-test.true
    c.answer-item.is (sym c.is_its_literal.ensures ∙ c.if-is_its_literal.true))
