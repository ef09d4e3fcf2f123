-- The text of a list of entries: a head line, then for each entry its costs and its model.
use Rattle.std.specs.Prelude.{ℕ, ◌+◌, Bool, true, false, List, [], ◌∷◌, ◌++◌, length, codes, ℤ}
use Rattle.std.specs.List.{flat_map}
use Rattle.std.specs.Fmt.{decimal, signed_decimal}
use Rattle.front_set.specs.declared.entry.Entry.{Entry}

-- `s COMPLETE n` or `s INCOMPLETE n`
abbrev pub head_line : Bool → ℕ → List ℕ
head_line true n = codes "s COMPLETE " ++ decimal n ++ 10 ∷ []
head_line false n = codes "s INCOMPLETE " ++ decimal n ++ 10 ∷ []

-- `o c1 .. cp`, or `o` alone where there are no costs
abbrev pub costs_line : List ℤ → List ℕ
costs_line costs = codes "o" ++ flat_map (λ c. 32 ∷ signed_decimal c) costs ++ 10 ∷ []

-- the literal of a variable that has this value
abbrev pub literal_text : Bool → ℕ → List ℕ
literal_text true var = decimal var
literal_text false var = 45 ∷ decimal var

-- the literals of the variables from one on, each after a space
abbrev pub literals_from : ℕ → List Bool → List ℕ
literals_from var [] = []
literals_from var (b ∷ bs) = 32 ∷ literal_text b var ++ literals_from (var + 1) bs

-- `v l1 .. ln 0`
abbrev pub model_line : List Bool → List ℕ
model_line model = codes "v" ++ literals_from 1 model ++ codes " 0" ++ 10 ∷ []

abbrev pub entry_text : Entry → List ℕ
entry_text e = costs_line e.costs ++ model_line e.model

abbrev pub list_text : Bool → List Entry → List ℕ
list_text complete entries = head_line complete (length entries) ++ flat_map entry_text entries
