use Rattle.std.proofs.Common.{◌≡◌, ◌<◌, ◌≤◌, ◌+◌, ◌++◌, [], take, drop}
use Rattle.command_trim.specs.Marks.{made_by}
use Rattle.command_trim.specs.Renames.{next_one, renaming}
use Rattle.command_trim.specs.Trimmed.{kept_lines}
use Rattle.command_trim.proofs.trimming.kept_lines.Given as goal

abbrev pub invariant-loop-at : goal.invariant-loop-at
invariant-loop-at l = record {
  rows : l.renames.rows ≡ l.rows;
  place : next_one l.renames ≡ l.rows + 1 + made_by (take l.at l.lines);
  positive : 0 < l.next;
  low : l.next ≤ next_one l.renames;
  whole : l.kept ++ kept_lines (renaming l.renames) (next_one l.renames) l.next (drop l.at l.needs) (drop l.at l.lines)
      ≡ kept_lines (record { rows = l.rows; made = [] }) (l.rows + 1) (l.rows + 1) l.needs l.lines;
}
