use Rattle.watch_prop.proofs.WatchVisits.{watches_extended}
use Rattle.watch_prop.proofs.watch_prop.WatchProp.by_counters.Goals as goal

pub returns-clause-in_step : goal.returns-clause-in_step
returns-clause-in_step c = record {
  watches = watches_extended c.args.self.now.watches c.args.store.now c.args.store.now c.args.trail.now c.propagate.new.trail c.propagate.ensures.extends c.requires.in_step.watches;
  counters = c.propagate.ensures.in_step;
}
