use Rattle.std.proofs.Common.{◌≡◌, length, take}
use Rattle.scut_base.specs.Literal.{Literal}
use Rattle.harden.specs.Noted.{occurrence_at, with_row}
use Rattle.harden.proofs.noting.note_constraint.Given as goal

abbrev pub invariant-loop-at : goal.invariant-loop-at
invariant-loop-at l = record {
  places : length l.table.items ≡ length l.fn.table.items;
  noted : (m : Literal) → occurrence_at l.table.items m ≡ with_row (record { terms = take l.at l.row.terms; degree = l.row.degree }) l.id m (occurrence_at l.fn.table.items m);
}
