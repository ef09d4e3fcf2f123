use Rattle.std.proofs.Common.{◌≡◌, ◌∷◌, take, length}
use Rattle.std.specs.List.{flat_map}
use Rattle.front_set.specs.ListText.{head_line}
use Rattle.front_text.specs.Lines.{entry_lines}
use Rattle.front_text.proofs.print.list_lines.Given as goal

abbrev pub invariant-loop-entry : goal.invariant-loop-entry
invariant-loop-entry l = l.lines ≡ head_line l.complete (length l.entries) ∷ flat_map entry_lines (take l.entry-index l.entries)
