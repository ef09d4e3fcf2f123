use Rattle.std.proofs.Common.{◌≡◌, take}
use Rattle.pb_lin.specs.Constraint.{total}
use Rattle.cutting_planes.specs.Rules.{multiplied}
use Rattle.cutting_planes.specs.Slots.{AreAdded}
use Rattle.cutting_planes.proofs.slots.add_multiple.Given as goal

abbrev pub invariant-loop-at : goal.invariant-loop-at
invariant-loop-at l = record {
  total : l.added ≡ total (take l.at (multiplied l.factor l.c).terms);
  terms : AreAdded l.initial.slots (take l.at (multiplied l.factor l.c).terms) l.slots l.cancelled;
}
