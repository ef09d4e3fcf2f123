use Rattle.std.proofs.Common.{◌<◌, All}
use Rattle.proof_rules.proofs.RowEntries.{AreFound}
use Rattle.proof_rules.proofs.row_index.RowIndex.touched.Given as goal

abbrev pub invariant-loop-image : goal.invariant-loop-image
invariant-loop-image l = record {
  within : All (λ k. k < l.rows) l.places.items;
  found : AreFound l.images l.self.entries l.rows l.image-index l.places.items;
}
