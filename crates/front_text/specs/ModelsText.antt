-- The text of models by entries: a first line that counts the entries, then for each entry a line that counts its models, and these.
use Rattle.std.specs.Prelude.{ℕ, Bool, true, false, List, [], ◌∷◌, ◌++◌, length, codes}
use Rattle.std.specs.List.{flat_map}
use Rattle.std.specs.Fmt.{decimal}
use Rattle.scut_base.specs.Bytes.{newline}
use Rattle.front_set.specs.ListText.{model_line}
use Rattle.front_text.specs.declared.reps.Reps.{Reps}

-- `s MODELS n`
abbrev pub head_line : ℕ → List ℕ
head_line n = codes "s MODELS " ++ decimal n ++ newline ∷ []

-- `e ALL m` where the models are to be all, and else `e FIRST m`
abbrev pub kind_line : Bool → ℕ → List ℕ
kind_line true m = codes "e ALL " ++ decimal m ++ newline ∷ []
kind_line false m = codes "e FIRST " ++ decimal m ++ newline ∷ []

-- that line, and the `v` line of each model
abbrev pub entry_text : Reps → List ℕ
entry_text r = kind_line r.all (length r.models) ++ flat_map model_line r.models

abbrev pub models_text : List Reps → List ℕ
models_text entries = head_line (length entries) ++ flat_map entry_text entries
