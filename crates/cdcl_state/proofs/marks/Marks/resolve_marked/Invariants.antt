use Rattle.std.proofs.Common.{◌≡◌, ◌<◌, ◌≤◌, ℕ, List, length}
use Rattle.std.specs.Prelude.{Contains, reverse}
use Rattle.std.specs.Ordering.{nat_cmp}
use Rattle.std.specs.BinaryHeap.{IsHeap, heap_items}
use Rattle.scut_base.specs.Literal.{Literal}
use Rattle.cdcl_state.specs.declared.reach.Reach.TheVariants.{Decisions}
use Rattle.cdcl_state.specs.Walking.{IsClosing, IsWalk}
use Rattle.cdcl_state.proofs.marks.Marks.resolve_marked.Given as goal

abbrev pub invariant-back : goal.invariant-back
invariant-back l = record {
  walk : IsWalk l.trail Decisions l.self.on.items l.self.seen.items l.self.places l.self.least;
  room : length l.self.on.items ≡ length l.fn.self.on.items;
  falls : l.self.least ≤ l.fn.self.least;
  heap : IsHeap nat_cmp (heap_items l.waiting);
  listed : (p : ℕ) → Contains l.self.places p → p < l.before → Contains (heap_items l.waiting) p;
  within : l.before ≤ length l.trail.steps;
  closing : (given : List Literal) → IsClosing l.store l.trail Decisions l.fn.self.on.items l.end given (reverse l.fn.hints.items) → IsClosing l.store l.trail Decisions l.self.on.items l.before given (reverse l.hints.items);
}

abbrev pub decreases-back : goal.decreases-back
decreases-back l = l.before
