use Rattle.std.proofs.Common.{◌-◌, length}
use Rattle.watch_prop.specs.Watches.{IsReady, IsFollowed}
use Rattle.watch_prop.proofs.watches.Watches.look_at_all.Given as goal

abbrev pub invariant-loop-self : goal.invariant-loop-self
invariant-loop-self l = record {
  ready : IsReady l.self l.trail;
  followed : IsFollowed l.fn.self l.self l.fn.trail l.trail;
}

abbrev pub decreases-loop-self : goal.decreases-loop-self
decreases-loop-self l = l.trail.vars - length l.self.ends.items
