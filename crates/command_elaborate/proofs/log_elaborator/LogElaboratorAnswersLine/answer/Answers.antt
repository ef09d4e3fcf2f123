use Rattle.command_elaborate.proofs.Answering.{line_added, line_formed, line_made, line_numbered, line_refused, line_stays}
use Rattle.command_elaborate.proofs.log_elaborator.LogElaboratorAnswersLine.answer.Goals as goal

pub returns-clause-answered : goal.returns-clause-answered
returns-clause-answered c = line_added c.args.self.now.elaborator c.add.new.self c.args.line c.add.result c.line_answer.result c.next_number-number.result c.line_answer.ensures c.add.ensures.problem c.add.ensures.added

pub returns-clause-formed : goal.returns-clause-formed
returns-clause-formed c = line_formed c.args.self.now.elaborator c.add.new.self c.args.line c.add.result c.line_answer.result c.next_number-number.result c.line_answer.ensures c.add.ensures.added

pub returns-clause-made : goal.returns-clause-made
returns-clause-made c = line_made c.args.self.now.elaborator c.add.new.self c.args.line c.add.result c.line_answer.result c.next_number-number.result c.line_answer.ensures c.add.ensures.added

pub returns-clause-same : goal.returns-clause-same
returns-clause-same c = line_stays c.args.self.now.elaborator c.add.new.self c.args.line c.add.result c.line_answer.result c.next_number-number.result c.line_answer.ensures c.add.ensures.same

pub returns-clause-refused : goal.returns-clause-refused
returns-clause-refused c = line_refused c.args.self.now.elaborator c.add.new.self c.args.line c.add.result c.line_answer.result c.next_number-number.result c.line_answer.ensures c.add.ensures.refused c.add.ensures.same

pub returns-clause-number : goal.returns-clause-number
returns-clause-number c = line_numbered c.args.self.now.elaborator c.add.new.self c.args.line c.add.result c.line_answer.result c.next_number-number.result c.line_answer.ensures c.next_number-number.ensures
