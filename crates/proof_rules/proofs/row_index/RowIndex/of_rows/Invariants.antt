use Rattle.proof_rules.proofs.RowEntries.{RowsEntered}
use Rattle.proof_rules.proofs.row_index.RowIndex.of_rows.Given as goal

abbrev pub invariant-loop-at : goal.invariant-loop-at
invariant-loop-at l = RowsEntered l.entries.items l.rows l.at
