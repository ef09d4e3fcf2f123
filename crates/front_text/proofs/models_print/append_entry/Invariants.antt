use Rattle.std.proofs.Common.{◌≡◌, ◌++◌, take, length}
use Rattle.std.specs.List.{flat_map}
use Rattle.front_set.specs.ListText.{model_line}
use Rattle.front_text.specs.ModelsText.{kind_line}
use Rattle.front_text.proofs.models_print.append_entry.Given as goal

abbrev pub invariant-loop-model : goal.invariant-loop-model
invariant-loop-model l = l.text.items ≡ l.fn.text.items ++ (kind_line l.reps.all (length l.reps.models) ++ flat_map model_line (take l.model-index l.reps.models))
