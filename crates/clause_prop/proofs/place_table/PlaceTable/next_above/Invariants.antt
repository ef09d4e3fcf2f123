use Rattle.std.proofs.Common.{◌≡◌, ◌<◌, ℕ, None}
use Rattle.pb_lin.specs.IdTable.{place_in}
use Rattle.clause_prop.proofs.place_table.PlaceTable.next_above.Given as goal

abbrev pub invariant-loop-next : goal.invariant-loop-next
invariant-loop-next l = (k : ℕ) → l.id < k → k < l.next → place_in l.self k ≡ None
