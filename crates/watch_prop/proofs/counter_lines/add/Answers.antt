use Rattle.watch_prop.specs.Counting.{no_occurrence}
use Rattle.watch_prop.proofs.CounterLists.{add_fits}
use Rattle.watch_prop.proofs.counter_lines.add.Goals as goal
use Rattle.std.proofs.Common.{arith}

pub overflow_add-line : goal.overflow_add-line
overflow_add-line c =
    let slot = c.requires.slots c.loop-entry.entry-index no_occurrence c.loop-entry-test.true in
    let fits = add_fits c.loop-entry.lines.items c.args.lines.now.items c.args.list.now c.loop-entry.entry-index c.index_mut-line.result.now c.loop-entry.invariant.each c.requires.small c.loop-entry-test.true (omega (arith, slot, c.loop-entry.invariant.len)) c.index_mut-line.ensures.value c.if-line.true in
    omega (arith, fits)
