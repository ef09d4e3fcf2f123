use Rattle.std.proofs.Common.{◌≡◌, [], length, take}
use Rattle.scut_base.specs.Literal.{Literal}
use Rattle.harden.specs.Noted.{occurrence_at, occurrence_in}
use Rattle.harden.proofs.noting.note_rows.Given as goal

abbrev pub invariant-loop-at : goal.invariant-loop-at
invariant-loop-at l = record {
  places : length l.table.items ≡ length l.fn.table.items;
  noted : (m : Literal) → occurrence_at l.table.items m ≡ occurrence_in (take l.at l.rows) [] m;
}
