use Rattle.command_elaborate.proofs.Replays.{plain_next}
use Rattle.command_elaborate.proofs.Opened.{kept_after, refused_alike, refused_by}
use Rattle.command_elaborate.proofs.adding.step_line.Goals as goal

pub returns-in-Ok-clause-loosely : goal.returns-in-Ok-clause-loosely
returns-in-Ok-clause-loosely g c = plain_next c.args.problem.now c.args.state.now c.step.new.self c.args.line.now c.in-Ok.ensures.next

pub returns-in-Ok-clause-kept : goal.returns-in-Ok-clause-kept
returns-in-Ok-clause-kept g c = kept_after c.args.problem.now c.args.state.now c.step.new.self c.args.line.now c.args.next.now c.args.search.now c.let_go.new.search c.requires.kept c.in-Ok.ensures.next c.let_go.ensures.store c.let_go.ensures.vars c.let_go.ensures.flat

pub returns-else-is_open-clause-refused : goal.returns-else-is_open-clause-refused
returns-else-is_open-clause-refused g c = refused_alike c.args.problem.now c.args.state.now c.args.line.now c.in-Err-Refused.why (c.is_open.ensures.no c.if-is_open.false)
    (refused_by c.args.problem.now c.args.state.now c.args.line.now c.step.result c.in-Err-Refused.field-0 c.in-Err-Refused.why c.in-Err-Refused.is c.in-Err-Refused.field-0-is c.step.ensures.refused)
