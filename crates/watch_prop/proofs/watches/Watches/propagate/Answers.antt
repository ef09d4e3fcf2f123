use Rattle.watch_prop.specs.Watches.{AreWatches}
use Rattle.watch_prop.proofs.WatchVisits.{conflict_in, none_weaker, watched_closed}
use Rattle.watch_prop.proofs.watches.Watches.propagate.Goals as goal

pub look_at_all-requires : goal.look_at_all-requires
unfolding AreWatches
look_at_all-requires c = record { ready = c.requires.in_step.0 }

pub returns-clause-in_step : goal.returns-clause-in_step
unfolding AreWatches
returns-clause-in_step c = (c.look_at_all.ensures.ready, c.look_at_all.ensures.followed.hold c.args._store.now c.requires.in_step.1)

pub returns-clause-conflict : goal.returns-clause-conflict
unfolding AreWatches
returns-clause-conflict c = conflict_in c.look_at_all.result c.look_at_all.new.self c.args._store.now c.look_at_all.new.trail (c.look_at_all.ensures.followed.hold c.args._store.now c.requires.in_step.1) c.look_at_all.ensures.conflict

pub returns-clause-closed : goal.returns-clause-closed
unfolding AreWatches
returns-clause-closed c = none_weaker c.look_at_all.result (λ all. watched_closed c.look_at_all.new.self c.args._store.now c.look_at_all.new.trail c.look_at_all.ensures.ready (c.look_at_all.ensures.followed.hold c.args._store.now c.requires.in_step.1) all) c.look_at_all.ensures.all

pub returns-clause-extends : goal.returns-clause-extends
unfolding AreWatches
returns-clause-extends c = c.look_at_all.ensures.followed.extends c.args._store.now c.requires.in_step.1
