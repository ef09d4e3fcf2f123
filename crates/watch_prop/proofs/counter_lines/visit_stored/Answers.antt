use Rattle.clause_prop.proofs.Extensions.{extends_none}
use Rattle.watch_prop.proofs.counter_lines.visit_stored.Goals as goal

pub returns-then-line-degree-clause-extends : goal.returns-then-line-degree-clause-extends
returns-then-line-degree-clause-extends c = extends_none c.args.store.now c.args.trail.now
