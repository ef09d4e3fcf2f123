use Rattle.std.proofs.Common.{ℕ, ◌<◌, All}
use Rattle.std.specs.Prelude.{Contains}
use Rattle.proof_rules.proofs.RowEntries.{ArePushed}
use Rattle.proof_rules.proofs.row_index.push_places.Given as goal

abbrev pub invariant-loop-at : goal.invariant-loop-at
invariant-loop-at l = record {
  within : All (λ k. k < l.rows) l.fn.places.items → All (λ k. k < l.rows) l.places.items;
  kept : (k : ℕ) → Contains l.fn.places.items k → Contains l.places.items k;
  pushed : ArePushed l.entries l.rows l.first l.at l.places.items;
}
