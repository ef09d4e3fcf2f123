-- The turns of a search in turns: a digit each, which is the number of a search.
use Rattle.std.specs.Prelude.{ℕ, ◌-◌, ◌==◌, ◌&&◌, ◌||◌, not, nat_le, Bool, true, false, List, length, map, Option, Some, None}
use Rattle.std.specs.List.{list_all, list_any}
use Rattle.command_solve.specs.declared.options.SearchKind.{SearchKind}
use Rattle.command_solve.specs.declared.options.SearchKind.TheVariants.{PMinimal, LowerBounding, BiOptSat, Turns}

-- 1, 2 or 3
abbrev pub is_turn : ℕ → Bool
is_turn digit = nat_le 49 digit && nat_le digit 51

-- one of these or more, and nothing else
abbrev pub are_turns : List ℕ → Bool
are_turns digits = not (length digits == 0) && list_all is_turn digits

abbrev pub is_in_turns : SearchKind → Bool
is_in_turns PMinimal = false
is_in_turns LowerBounding = false
is_in_turns BiOptSat = false
is_in_turns Turns = true

-- a search in turns has turns, and no other has
abbrev pub turns_fit : SearchKind → Option (List ℕ) → Bool
turns_fit search (Some digits) = is_in_turns search && are_turns digits
turns_fit search None = not (is_in_turns search)

abbrev pub has_third : List ℕ → Bool
has_third digits = list_any (λ digit. digit == 51) digits

-- Whether this search takes an instance of so many objectives. The search for two objectives wants as many, and so do turns
-- of it: it is the third.
abbrev pub takes : SearchKind → Option (List ℕ) → ℕ → Bool
takes PMinimal turns objectives = true
takes LowerBounding turns objectives = true
takes BiOptSat turns objectives = objectives == 2
takes Turns None objectives = false
takes Turns (Some digits) objectives = are_turns digits && (objectives == 2 || not (has_third digits))

-- the numbers of the searches
abbrev pub numbers_of : List ℕ → List ℕ
numbers_of digits = map (λ digit. digit - 48) digits
