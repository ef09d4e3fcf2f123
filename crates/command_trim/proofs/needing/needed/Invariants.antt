use Rattle.std.proofs.Common.{◌≡◌, ◌≤◌, ◌+◌, length, take, drop}
use Rattle.command_trim.specs.Marks.{AreMarked, made_by}
use Rattle.command_trim.specs.Trimmed.{needed, needed_ids}
use Rattle.command_trim.proofs.needing.needed.Given as goal

abbrev pub invariant-loop-at : goal.invariant-loop-at
invariant-loop-at l = record {
  bound : l.at ≤ length l.lines;
  next : l.next ≡ l.rows + 1 + made_by (take l.at l.lines);
  size : length l.marks ≡ made_by l.lines;
  marks : AreMarked l.rows l.marks (needed_ids l.next (drop l.at l.lines));
  count : length l.needs.items ≡ length l.lines;
  needs : drop l.at l.needs.items ≡ needed l.next (drop l.at l.lines);
}

abbrev pub decreases-loop-at : goal.decreases-loop-at
decreases-loop-at l = l.at
