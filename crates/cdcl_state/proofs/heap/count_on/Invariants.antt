use Rattle.std.proofs.Common.{◌≡◌, ◌+◌}
use Rattle.std.specs.Vec.{vec_len, vec_capacity}
use Rattle.cdcl_state.specs.Heap.{CountsOn}
use Rattle.cdcl_state.proofs.heap.count_on.Given as goal

abbrev pub invariant-loop : goal.invariant-loop
invariant-loop l = record {
  counts : CountsOn l.fn.list.items l.list.items l.shift l.counter;
  len : vec_len l.list ≡ vec_len l.fn.list + l.counter;
  capacity : vec_capacity l.list ≡ vec_capacity l.fn.list;
}
