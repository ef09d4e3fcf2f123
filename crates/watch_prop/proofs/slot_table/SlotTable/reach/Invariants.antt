use Rattle.std.proofs.Common.{◌≡◌, ◌-◌, ◌+◌, ℕ, get_or, length}
use Rattle.watch_prop.proofs.slot_table.SlotTable.reach.Given as goal

abbrev pub invariant-loop-self : goal.invariant-loop-self
invariant-loop-self l = (q : ℕ) → get_or l.self-inside.slots.items q 0 ≡ get_or l.fn.self q 0

abbrev pub decreases-loop-self : goal.decreases-loop-self
decreases-loop-self l = l.at + 1 - length l.self-inside.slots.items
