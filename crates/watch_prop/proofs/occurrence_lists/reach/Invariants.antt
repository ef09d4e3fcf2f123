use Rattle.std.proofs.Common.{◌≡◌, ◌-◌, ◌+◌, ℕ, get_or, length}
use Rattle.watch_prop.proofs.occurrence_lists.reach.Given as goal

abbrev pub invariant-loop-places : goal.invariant-loop-places
invariant-loop-places l = (k : ℕ) → get_or l.places.items k 0 ≡ get_or l.fn.places.items k 0

abbrev pub decreases-loop-places : goal.decreases-loop-places
decreases-loop-places l = l.code + 1 - length l.places.items
