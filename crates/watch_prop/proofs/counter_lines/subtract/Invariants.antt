use Rattle.watch_prop.proofs.CounterLists.{AreLowered}
use Rattle.watch_prop.proofs.counter_lines.subtract.Given as goal

abbrev pub invariant-loop-entry : goal.invariant-loop-entry
invariant-loop-entry l = AreLowered l.fn.lines.items l.lines.items l.list l.low l.entry-index
