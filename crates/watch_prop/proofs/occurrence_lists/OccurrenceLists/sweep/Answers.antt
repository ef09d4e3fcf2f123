use Rattle.watch_prop.specs.Counting.{kept_for}
use Rattle.watch_prop.proofs.CounterLists.{swept_listed, swept_slots}
use Rattle.watch_prop.proofs.occurrence_lists.OccurrenceLists.sweep.Goals as goal

pub returns-clause-slots : goal.returns-clause-slots
returns-clause-slots c = λ n code are. swept_slots (kept_for c.args.self.now code) _ code n (c.sweep_all.ensures.code _) (c.sweep_all.ensures.slots n _) are

pub returns-clause-same : goal.returns-clause-same
returns-clause-same c = λ code j live. swept_listed (kept_for c.args.self.now code) _ code j (c.sweep_all.ensures.code _) (c.sweep_all.ensures.same _ j live)
