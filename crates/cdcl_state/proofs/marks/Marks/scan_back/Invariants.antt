use Rattle.std.proofs.Common.{◌≡◌, ◌+◌, ◌≤◌, List, length}
use Rattle.std.specs.Prelude.{reverse}
use Rattle.scut_base.specs.Literal.{Literal}
use Rattle.cdcl_state.specs.Walking.{IsClosing, IsWalk, spare}
use Rattle.cdcl_state.proofs.marks.Marks.scan_back.Given as goal

abbrev pub invariant-back : goal.invariant-back
invariant-back l = record {
  walk : IsWalk l.trail l.reach l.self.on.items l.self.seen.items l.self.places l.self.least;
  room : length l.self.on.items ≡ length l.fn.self.on.items;
  falls : l.self.least ≤ l.fn.self.least;
  after : l.self.least + spare l.reach ≤ l.place;
  within : l.place ≤ length l.trail.steps;
  closing : (given : List Literal) → IsClosing l.store l.trail l.reach l.fn.self.on.items l.end given (reverse l.fn.hints.items) → IsClosing l.store l.trail l.reach l.self.on.items l.place given (reverse l.hints.items);
}

abbrev pub decreases-back : goal.decreases-back
decreases-back l = l.place
