use Rattle.clause_prop.proofs.Extensions.{extends_twice}
use Rattle.watch_prop.proofs.counters.Counters.propagate.Goals as goal

pub returns-clause-extends : goal.returns-clause-extends
returns-clause-extends c = extends_twice c.args.store.now c.args.trail.now c.settle.new.trail c.look_at_all.new.trail c.settle.ensures.extends c.look_at_all.ensures.extends
