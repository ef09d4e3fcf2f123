use Rattle.watch_prop.proofs.CounterLaws.{counters_watched}
use Rattle.watch_prop.proofs.counters.watched_line_keeps_counters.Goals as goal

pub returns : goal.returns
returns c = counters_watched
