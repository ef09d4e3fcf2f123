use Rattle.std.proofs.Common.{◌≡◌, length, take}
use Rattle.scut_base.specs.Literal.{Literal}
use Rattle.harden.specs.Noted.{occurrence_at, with_costs}
use Rattle.harden.proofs.noting.note_costs.Given as goal

abbrev pub invariant-loop-row : goal.invariant-loop-row
invariant-loop-row l = record {
  places : length l.table.items ≡ length l.fn.table.items;
  noted : (m : Literal) → occurrence_at l.table.items m ≡ with_costs (take l.row-index l.costs) m (occurrence_at l.fn.table.items m);
}
