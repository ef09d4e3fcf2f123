use Rattle.std.proofs.Common.{arith}
use Rattle.watch_prop.specs.Counted.{AreCounters}
use Rattle.watch_prop.proofs.counters.Counters.added.Goals as goal

pub take_up-requires-clause-in_step : goal.take_up-requires-clause-in_step
take_up-requires-clause-in_step c = c.count_to.ensures.in_step _ c.requires.in_step

pub take_up-requires-clause-counted : goal.take_up-requires-clause-counted
unfolding AreCounters
take_up-requires-clause-counted c =
    let counts = (c.count_to.ensures.in_step _ c.requires.in_step).counts in
    let low = c.count_to.ensures.counted in
    omega (arith, counts, low, c.len.ensures.value)
