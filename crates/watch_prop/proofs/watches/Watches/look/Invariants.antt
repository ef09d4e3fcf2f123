use Rattle.std.proofs.Common.{◌≡◌, ◌-◌}
use Rattle.watch_prop.specs.Watches.{IsAt, IsFollowed, entries_of}
use Rattle.watch_prop.proofs.watches.Watches.look.Given as goal

abbrev pub invariant-loop-at : goal.invariant-loop-at
invariant-loop-at l = record {
  looking : IsAt l.self l.trail l.lit l.at;
  ends : l.self.ends.items ≡ l.fn.self.ends.items;
  followed : IsFollowed l.fn.self l.self l.fn.trail l.trail;
}

abbrev pub decreases-loop-at : goal.decreases-loop-at
decreases-loop-at l = entries_of l.self l.lit - l.at
