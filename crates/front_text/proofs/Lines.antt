-- The lines of a list make its text.
use Rattle.std.proofs.Common.{◌≡◌, Bool, List, [], ◌∷◌, ◌++◌, length, refl, ap, arith}
use Rattle.std.specs.List.{concat, flat_map}
use Rattle.std.proofs.lemmas.List.{append_assoc}
use Rattle.front_set.specs.declared.entry.Entry.{Entry}
use Rattle.front_set.specs.ListText.{list_text, entry_text, head_line}
use Rattle.front_text.specs.Lines.{entry_lines, list_lines}

concat-entry_lines : (entries : List Entry) → concat (flat_map entry_lines entries) ≡ flat_map entry_text entries
concat-entry_lines [] = refl
concat-entry_lines (e ∷ entries) = grind (arith, concat-entry_lines entries, append_assoc)

pub concat-list_lines : (complete : Bool) (entries : List Entry) → concat (list_lines complete entries) ≡ list_text complete entries
concat-list_lines complete entries = ap (λ xs. head_line complete (length entries) ++ xs) (concat-entry_lines entries)
