use Rattle.std.proofs.Common.{◌∙◌, sym}
use Rattle.watch_prop.specs.Watches.{AreWatches}
use Rattle.watch_prop.proofs.WatchHold.{hold_same, same_watched_added}
use Rattle.watch_prop.proofs.CounterLaws.{counters_watched}
use Rattle.watch_prop.proofs.Results.{on_ok}
use Rattle.watch_prop.proofs.watch_prop.WatchPropPropagator.added.Goals as goal

pub returns-then-is_watched-clause-ok : goal.returns-then-is_watched-clause-ok
returns-then-is_watched-clause-ok c = on_ok c.added.result _ _
    (λ watches. record {
      watches = watches;
      counters = counters_watched c.args.self.now.counters c.args.store.now c.args.trail.now c.args.id c.in-Some.line.now c.in-Some.ensures (sym c.is_watched.ensures ∙ c.if-is_watched.true) c.requires.in_step.counters;
    })
    c.added.ensures.ok

pub returns-else-is_watched-clause-ok : goal.returns-else-is_watched-clause-ok
unfolding AreWatches
returns-else-is_watched-clause-ok c = on_ok c.added-else-is_watched.result _ _
    (λ counters. record {
      watches = (
        c.requires.in_step.watches.0,
        hold_same c.args.self.now.watches.slots c.args.self.now.watches.index _ _ (same_watched_added c.args.store.now c.args.id c.in-Some.line.now c.in-Some.ensures (sym c.is_watched.ensures ∙ c.if-is_watched.false)) c.requires.in_step.watches.1,
      );
      counters = counters;
    })
    c.added-else-is_watched.ensures.ok
