use Rattle.std.proofs.Common.{ℕ, take}
use Rattle.std.specs.Prelude.{All, Contains}
use Rattle.std.specs.Ordering.{nat_cmp}
use Rattle.std.specs.BinaryHeap.{IsHeap, heap_items}
use Rattle.cdcl_state.proofs.places.gather.Given as goal

abbrev pub invariant-loop-place : goal.invariant-loop-place
invariant-loop-place l = record {
  heap : IsHeap nat_cmp (heap_items l.waiting);
  kept : (p : ℕ) → Contains (heap_items l.fn.waiting) p → Contains (heap_items l.waiting) p;
  all : All (Contains (heap_items l.waiting)) (take l.place-index l.places);
}
