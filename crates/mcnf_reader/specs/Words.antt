-- A text as lines, and a line as words.
use Rattle.std.specs.Prelude.{ℕ, Bool, ◌==◌, ◌||◌, not, List, length, map}
use Rattle.std.specs.List.{filter, slice_split}
use Rattle.std.specs.Str.Lines.{strip_carriage_return}

-- the first letter of a comment
abbrev pub letter_c : ℕ
letter_c = 99

-- the first letter of a soft clause
abbrev pub letter_o : ℕ
letter_o = 111

-- the parts between line feeds, each without the one carriage return at its end, if it has one
abbrev pub lines_of : List ℕ → List (List ℕ)
lines_of text = map strip_carriage_return (slice_split (λ b. b == 10) text)

-- a space or a tab
abbrev pub is_blank : ℕ → Bool
is_blank b = b == 32 || b == 9

-- the parts between blanks that aren't empty
abbrev pub words_of : List ℕ → List (List ℕ)
words_of line = filter (λ w. not (length w == 0)) (slice_split is_blank line)
