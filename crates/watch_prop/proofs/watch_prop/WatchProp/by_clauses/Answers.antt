use Rattle.watch_prop.proofs.CounterLaws.{counters_extended}
use Rattle.watch_prop.proofs.watch_prop.WatchProp.by_clauses.Goals as goal

pub returns-clause-in_step : goal.returns-clause-in_step
returns-clause-in_step c = record {
  watches = c.propagate.ensures.in_step;
  counters = counters_extended c.args.self.now.counters c.args.store.now c.args.store.now c.args.trail.now c.propagate.new.trail c.propagate.ensures.extends c.requires.in_step.counters;
}
