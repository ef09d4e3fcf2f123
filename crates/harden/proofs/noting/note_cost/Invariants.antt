use Rattle.std.proofs.Common.{◌≡◌, length, take}
use Rattle.scut_base.specs.Literal.{Literal}
use Rattle.harden.specs.Noted.{occurrence_at, with_cost}
use Rattle.harden.proofs.noting.note_cost.Given as goal

abbrev pub invariant-loop-term : goal.invariant-loop-term
invariant-loop-term l = record {
  places : length l.table.items ≡ length l.fn.table.items;
  noted : (m : Literal) → occurrence_at l.table.items m ≡ with_cost (take l.term-index l.row.terms) m (occurrence_at l.fn.table.items m);
}
