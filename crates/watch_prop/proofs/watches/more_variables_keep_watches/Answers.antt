use Rattle.watch_prop.specs.Watching.{lits_of}
use Rattle.watch_prop.specs.Watches.{AreWatches}
use Rattle.watch_prop.proofs.WatchKept.{kept_more}
use Rattle.watch_prop.proofs.watches.more_variables_keep_watches.Goals as goal

pub returns : goal.returns
unfolding AreWatches
returns c = λ w lines t n up watches. (kept_more w.slots w.lists.items w.ends.items t.vars n (lits_of t.steps) up watches.0, watches.1)
