use Rattle.std.proofs.Common.{◌≤◌, length}
use Rattle.cdcl_state.specs.Heap.{IsOrdered, IsWaitingFrom, key}
use Rattle.cdcl_state.proofs.heap.VariableHeap.wait_from.Given as goal

abbrev pub invariant-loop-at : goal.invariant-loop-at
invariant-loop-at l = record {
  room : l.self.count ≤ length l.self.vars;
  ordered : IsOrdered (key l.self) l.self.count;
  waits : IsWaitingFrom l.fn.self l.self l.known l.at;
}
