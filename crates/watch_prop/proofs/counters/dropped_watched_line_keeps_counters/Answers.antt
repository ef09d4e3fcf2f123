use Rattle.watch_prop.proofs.CounterLaws.{counters_unwatched}
use Rattle.watch_prop.proofs.counters.dropped_watched_line_keeps_counters.Goals as goal

pub returns : goal.returns
returns c = counters_unwatched
