use Rattle.std.proofs.Common.{◌≡◌, ◌-◌, ◌+◌, ℕ, get_or, length}
use Rattle.clause_prop.proofs.place_table.reach.Given as goal

abbrev pub invariant-loop-places : goal.invariant-loop-places
invariant-loop-places l = (q : ℕ) → get_or l.places.items q 0 ≡ get_or l.fn.places.items q 0

abbrev pub decreases-loop-places : goal.decreases-loop-places
decreases-loop-places l = l.at + 1 - length l.places.items
