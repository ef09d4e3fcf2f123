use Rattle.std.proofs.Common.{take}
use Rattle.cdcl_state.specs.Walking.{IsHighest}
use Rattle.cdcl_state.proofs.marks.Marks.highest.Given as goal

abbrev pub invariant-loop-place : goal.invariant-loop-place
invariant-loop-place l = IsHighest l.trail l.self.on.items (take l.place-index l.self.places) l.top l.best
