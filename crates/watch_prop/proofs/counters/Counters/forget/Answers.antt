use Rattle.std.proofs.Common.{ℕ, List, sym, subst}
use Rattle.std.specs.Prelude.{nat_eq}
use Rattle.std.specs.Map.{lookup}
use Rattle.watch_prop.specs.Counting.{AreKept}
use Rattle.watch_prop.specs.Counted.{AreCounters}
use Rattle.watch_prop.proofs.CounterKeeps.{kept_done, kept_ends}
use Rattle.watch_prop.proofs.counters.Counters.forget.Goals as goal

pub returns-clause-in_step : goal.returns-clause-in_step
unfolding AreCounters
returns-clause-in_step c =
    let w = c.args.self.now in
    let store = c.args.store.now in
    let t = c.args.trail.now in
    let fewer = kept_ends w.lines.items w.lists (λ id. lookup (nat_eq id) w.slots.entries) w.counted w.ends.items w.fresh.items w.done store t c.ends_within-count.result c.requires.in_step in
    let done = kept_done w.lines.items w.lists (λ id. lookup (nat_eq id) w.slots.entries) w.counted _ w.fresh.items w.done store t c.fresh_within-self.result c.fresh_within-self.ensures.short fewer in
    subst (λ (es : List ℕ). AreKept w.lines.items w.lists (λ id. lookup (nat_eq id) w.slots.entries) w.counted es w.fresh.items c.fresh_within-self.result store t) (sym c.truncate.ensures.items) done
