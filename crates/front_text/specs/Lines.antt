-- The text of a list, line by line.
use Rattle.std.specs.Prelude.{Bool, List, [], ◌∷◌, ℕ, length}
use Rattle.std.specs.List.{flat_map}
use Rattle.front_set.specs.declared.entry.Entry.{Entry}
use Rattle.front_set.specs.ListText.{head_line, costs_line, model_line}

-- the lines of an entry
abbrev pub entry_lines : Entry → List (List ℕ)
entry_lines e = costs_line e.costs ∷ model_line e.model ∷ []

-- the head line, and the lines of all entries
abbrev pub list_lines : Bool → List Entry → List (List ℕ)
list_lines complete entries = head_line complete (length entries) ∷ flat_map entry_lines entries
