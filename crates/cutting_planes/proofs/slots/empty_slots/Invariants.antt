use Rattle.std.proofs.Common.{◌≡◌, ◌≤◌}
use Rattle.std.specs.List.{All}
use Rattle.cutting_planes.specs.Slots.{AreSlots}
use Rattle.cutting_planes.proofs.slots.empty_slots.Given as goal

abbrev pub invariant-loop-lit : goal.invariant-loop-lit
invariant-loop-lit l = record {
  slots : AreSlots l.slots.items;
  below : All (λ t. t.0.var ≤ l.last) l.slots.items;
  empty : All (λ t. t.1 ≡ 0) l.slots.items;
}
