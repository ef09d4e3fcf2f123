use Rattle.std.proofs.Common.{◌≡◌, ◌≤◌, ◌-◌, ◌+◌, ℕ, [], get_or, length}
use Rattle.watch_prop.proofs.watch_lists.reach.Given as goal

abbrev pub invariant-loop-alloc : goal.invariant-loop-alloc
invariant-loop-alloc l = record {
  same : (c : ℕ) → get_or l.lists.items c [] ≡ get_or l.fn.lists.items c [];
  longer : length l.fn.lists.items ≤ length l.lists.items;
}

abbrev pub decreases-loop-alloc : goal.decreases-loop-alloc
decreases-loop-alloc l = l.code + 1 - length l.lists.items
