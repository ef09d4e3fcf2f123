use Rattle.std.proofs.Common.{◌≡◌, ◌+◌, ◌++◌, replicate}
use Rattle.std.specs.Vec.{vec_len, vec_capacity}
use Rattle.cdcl_state.proofs.heap.push_copies.Given as goal

abbrev pub invariant-loop : goal.invariant-loop
invariant-loop g l = record {
  items : l.list.items ≡ l.fn.list.items ++ replicate l.counter l.item;
  len : vec_len l.list ≡ vec_len l.fn.list + l.counter;
  capacity : vec_capacity l.list ≡ vec_capacity l.fn.list;
}
