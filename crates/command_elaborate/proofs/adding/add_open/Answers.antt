use Rattle.command_elaborate.proofs.Opened.{opened, none_open, new_legal, new_formed, new_added, new_loosely, new_kept}
use Rattle.command_elaborate.proofs.adding.add_open.Goals as goal

pub hints_in-requires-clause-within : goal.hints_in-requires-clause-within
hints_in-requires-clause-within g c = (opened c.args.problem.now c.args.state.now c.args.line.now c.in-Some.goal.now c.in-Some.ensures c.requires.refused).known.variables

pub returns-in_default-2-clause-refused : goal.returns-in_default-2-clause-refused
returns-in_default-2-clause-refused g c = none_open c.args.problem.now c.args.state.now c.args.line.now c.in-Some.goal.now c.in-Some.ensures c.requires.refused c.in_ok-hints.field-0 c.in_default-2.is c.in_ok-hints.ensures.open

pub advance-requires-clause-formed : goal.advance-requires-clause-formed
advance-requires-clause-formed g c = new_formed c.args.problem.now c.args.state.now c.args.line.now c.in-Some.goal.now c.in-Some.ensures c.requires.refused c.in_ok-hints.field-0 c.in-Some-2.hints c.give_hints.new.line c.in-Some-2.is c.in_ok-hints.ensures.proves c.give_hints.ensures c.requires.formed

pub advance-requires-clause-legal : goal.advance-requires-clause-legal
advance-requires-clause-legal g c = new_legal c.args.problem.now c.args.state.now c.args.line.now c.in-Some.goal.now c.in-Some.ensures c.requires.refused c.in_ok-hints.field-0 c.in-Some-2.hints c.give_hints.new.line c.in-Some-2.is c.in_ok-hints.ensures.proves c.give_hints.ensures

pub returns-clause-added : goal.returns-clause-added
returns-clause-added g c = new_added c.args.problem.now c.args.state.now c.args.line.now c.in-Some.goal.now c.in-Some.ensures c.requires.refused c.in_ok-hints.field-0 c.in-Some-2.hints c.give_hints.new.line c.in-Some-2.is c.in_ok-hints.ensures.proves c.give_hints.ensures c.requires.formed c.advance.new.self c.in_ok-advance.ensures.next

pub returns-clause-loosely : goal.returns-clause-loosely
returns-clause-loosely g c = new_loosely c.args.problem.now c.args.state.now c.args.line.now c.in-Some.goal.now c.in-Some.ensures c.requires.refused c.in_ok-hints.field-0 c.in-Some-2.hints c.give_hints.new.line c.in-Some-2.is c.in_ok-hints.ensures.proves c.give_hints.ensures c.advance.new.self c.in_ok-advance.ensures.next

pub returns-clause-kept : goal.returns-clause-kept
returns-clause-kept g c = new_kept c.args.problem.now c.args.state.now c.args.line.now c.in-Some.goal.now c.in-Some.ensures c.requires.refused c.in_ok-hints.field-0 c.in-Some-2.hints c.give_hints.new.line c.in-Some-2.is c.in_ok-hints.ensures.proves c.give_hints.ensures c.advance.new.self c.hints_in.new.next c.hints_in.new.search c.hints_in.ensures.kept c.in_ok-advance.ensures.next
