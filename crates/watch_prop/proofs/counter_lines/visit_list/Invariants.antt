use Rattle.std.proofs.Common.{take}
use Rattle.std.specs.List.{All}
use Rattle.clause_prop.specs.Propagating.{Extends}
use Rattle.watch_prop.specs.Counting.{IsGone, line_at}
use Rattle.watch_prop.proofs.counter_lines.visit_list.Given as goal

abbrev pub invariant-loop-entry : goal.invariant-loop-entry
invariant-loop-entry l = record {
  gone : All (λ e. IsGone l.store l.trail (line_at l.lines e.slot)) (take l.entry-index l.list);
  extends : Extends l.store l.fn.trail l.trail;
}
