use Rattle.std.proofs.Common.{take}
use Rattle.cdcl_state.specs.Walking.{AreAside}
use Rattle.cdcl_state.proofs.marks.Marks.aside.Given as goal

abbrev pub invariant-loop-place : goal.invariant-loop-place
invariant-loop-place l = AreAside l.trail l.reach l.self.on.items (take l.place-index l.self.places) l.lits.items
