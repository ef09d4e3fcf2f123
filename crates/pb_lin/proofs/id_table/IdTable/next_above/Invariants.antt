use Rattle.pb_lin.specs.IdTable.{place_in}
use Rattle.pb_lin.proofs.Ids.{Skipped}
use Rattle.pb_lin.proofs.id_table.IdTable.next_above.Given as goal

abbrev pub invariant-loop-at : goal.invariant-loop-at
invariant-loop-at l = Skipped (place_in l.self) l.self-inside.rising.items l.initial.at l.at
