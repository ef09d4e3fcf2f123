use Rattle.std.proofs.Common.{◌≡◌, ◌≤◌, ℕ, [], length}
use Rattle.std.specs.Prelude.{reverse}
use Rattle.cdcl_state.specs.declared.reach.Reach.TheVariants.{Level}
use Rattle.cdcl_state.specs.Walking.{IsClosing, IsWalk}
use Rattle.cdcl_state.proofs.marks.Marks.drop_steps.Given as goal

abbrev pub invariant-down : goal.invariant-down
invariant-down l = record {
  within : l.left ≤ length l.places;
  walk : IsWalk l.trail (Level l.top) l.self.on.items l.self.seen.items l.self.places l.self.least;
  room : length l.self.on.items ≡ length l.fn.self.on.items;
  least : l.self.least ≡ l.fn.self.least;
  closing : (end : ℕ) → IsClosing l.store l.trail (Level l.top) l.fn.self.on.items end [] (reverse l.fn.hints.items) → IsClosing l.store l.trail (Level l.top) l.self.on.items end [] (reverse l.hints.items);
}

abbrev pub decreases-down : goal.decreases-down
decreases-down l = l.left
