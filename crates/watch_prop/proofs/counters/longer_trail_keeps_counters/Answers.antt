use Rattle.watch_prop.proofs.CounterLaws.{counters_longer}
use Rattle.watch_prop.proofs.counters.longer_trail_keeps_counters.Goals as goal

pub returns : goal.returns
returns c = counters_longer
