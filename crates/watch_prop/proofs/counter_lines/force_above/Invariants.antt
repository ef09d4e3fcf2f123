use Rattle.std.proofs.Common.{◌+◌}
use Rattle.watch_prop.proofs.CounterForcing.{IsAbove}
use Rattle.watch_prop.proofs.counter_lines.force_above.Given as goal

abbrev pub invariant-loop-at : goal.invariant-loop-at
invariant-loop-at l = IsAbove l.line l.id (l.slack + l.line.degree) l.fn.trail l.trail l.at
