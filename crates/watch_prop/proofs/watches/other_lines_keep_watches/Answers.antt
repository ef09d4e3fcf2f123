use Rattle.watch_prop.specs.Watches.{AreWatches}
use Rattle.watch_prop.proofs.WatchHold.{hold_same}
use Rattle.watch_prop.proofs.watches.other_lines_keep_watches.Goals as goal

pub returns : goal.returns
unfolding AreWatches
returns c = λ w old new t same watches. (watches.0, hold_same w.slots w.index old new same watches.1)
