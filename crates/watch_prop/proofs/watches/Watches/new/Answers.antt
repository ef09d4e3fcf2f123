use Rattle.watch_prop.specs.Watches.{AreWatches}
use Rattle.watch_prop.proofs.WatchSlots.{kept_none}
use Rattle.watch_prop.proofs.WatchHold.{hold_none_of}
use Rattle.watch_prop.proofs.watches.Watches.new.Goals as goal

pub returns : goal.returns
unfolding AreWatches
returns c = λ n. (kept_none c.new.result c.new-3.result.items c.new-4.result.items n c.new.ensures c.new-3.ensures.items c.new-4.ensures.items, hold_none_of c.new.result c.new-2.result c.new.ensures)
