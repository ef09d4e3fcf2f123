use Rattle.watch_prop.proofs.CounterLaws.{counters_vars}
use Rattle.watch_prop.proofs.counters.more_variables_keep_counters.Goals as goal

pub returns : goal.returns
returns c = counters_vars
