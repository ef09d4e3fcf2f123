use Rattle.std.proofs.Common.{◌≡◌, ◌++◌, take, length}
use Rattle.std.specs.List.{flat_map}
use Rattle.front_set.specs.ListText.{head_line, entry_text}
use Rattle.front_text.proofs.print.print_list.Given as goal

abbrev pub invariant-loop-entry : goal.invariant-loop-entry
invariant-loop-entry l = l.text.items ≡ head_line l.complete (length l.entries) ++ flat_map entry_text (take l.entry-index l.entries)
