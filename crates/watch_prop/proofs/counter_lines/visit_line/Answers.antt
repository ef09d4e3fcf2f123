use Rattle.clause_prop.proofs.Extensions.{extends_none}
use Rattle.watch_prop.proofs.counter_lines.visit_line.Goals as goal

pub returns-then-not-line-clause-extends : goal.returns-then-not-line-clause-extends
returns-then-not-line-clause-extends c = extends_none c.args.store.now c.args.trail.now

pub returns-in-None-clause-extends : goal.returns-in-None-clause-extends
returns-in-None-clause-extends c = extends_none c.args.store.now c.args.trail.now
