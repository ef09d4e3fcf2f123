use Rattle.std.proofs.Common.{◌∙◌, true, ap}
use Rattle.log_checker.specs.Checking.{CheckerValue}
use Rattle.log_checker.proofs.Answering.{concluded_stands}
use Rattle.log_checker.proofs.checker.Checker.finish.Goals as goal

finished : CheckerValue → CheckerValue
finished c = record c { finished = true }

pub returns-clause-stands : goal.returns-clause-stands
unfolding finished
returns-clause-stands c = λ kept bytes stands.
    concluded_stands c.args.self.now _ c.conclusion-answer.result bytes (ap finished (c.self.view_is ∙ c.note.ensures)) kept (c.conclusion-answer.ensures.judged bytes stands) stands
