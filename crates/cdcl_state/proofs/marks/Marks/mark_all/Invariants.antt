use Rattle.std.proofs.Common.{◌≡◌, ◌≤◌, length, take}
use Rattle.std.specs.Prelude.{All}
use Rattle.pb_lin.specs.Constraint.{literals}
use Rattle.cdcl_state.specs.Walking.{AreUnresolved, IsLonger, IsMarkedBefore, IsMore, IsWalk}
use Rattle.cdcl_state.proofs.marks.Marks.mark_all.Given as goal

abbrev pub invariant-loop-lit : goal.invariant-loop-lit
invariant-loop-lit l = record {
  walk : IsWalk l.trail l.reach l.self.on.items l.self.seen.items l.self.places l.self.least;
  longer : IsLonger l.fn.self.places l.self.places;
  more : IsMore l.fn.self.on.items l.self.on.items;
  room : length l.self.on.items ≡ length l.fn.self.on.items;
  falls : l.self.least ≤ l.fn.self.least;
  stays : AreUnresolved l.trail l.reach l.end → l.self.least ≡ l.fn.self.least;
  marked : All (IsMarkedBefore l.trail l.self.on.items l.end) (take l.lit-index (literals l.line.terms));
}
