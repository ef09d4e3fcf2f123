use Rattle.std.proofs.Common.{◌≡◌, ◌++◌, take, length}
use Rattle.std.specs.List.{flat_map}
use Rattle.front_text.specs.ModelsText.{head_line, entry_text}
use Rattle.front_text.proofs.models_print.print_models.Given as goal

abbrev pub invariant-loop-reps : goal.invariant-loop-reps
invariant-loop-reps l = l.text.items ≡ head_line (length l.entries) ++ flat_map entry_text (take l.reps-index l.entries)
