use Rattle.watch_prop.specs.Counted.{AreCounters}
use Rattle.watch_prop.proofs.CounterStored.{kept_empty}
use Rattle.watch_prop.proofs.counters.Counters.new.Goals as goal

pub returns : goal.returns
unfolding AreCounters
returns c = λ n. kept_empty c.new.result.items c.new-2.result c.new-3.result.entries c.new-4.result.items c.new-5.result.items n c.new.ensures.items c.new-2.ensures c.new-3.ensures.empty c.new-4.ensures.items c.new-5.ensures.items
