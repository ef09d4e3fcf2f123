-- How the ids of a line are spelled: in digits, or counted back from the next one.
use Rattle.std.specs.Prelude.{ℕ, ◌+◌, ◌-◌, ◌≤◌, ◌^◌, ◌==◌, ◌&&◌, nat_lt, if◌then◌else◌, Bool, false, List, [], ◌∷◌, ◌++◌, map, codes}
use Rattle.std.specs.List.{flat_map, range_with_len}
use Rattle.std.specs.Fmt.{decimal}
use Rattle.proof_laws.specs.Steps.{made}
use Rattle.proof_laws.specs.declared.line.Line.{Line}
use Rattle.proof_lines.specs.declared.spelling.Spelling.{Spelling}
use Rattle.proof_lines.specs.declared.spelling.Spelling.TheVariants.{Plain, Relative}

-- the next id is one that a log may reach
abbrev pub IsSpelling : Spelling → Type 0
IsSpelling Plain = Unit {0}
IsSpelling (Relative rows next) = next ≤ 2 ^ 63

-- whether a line before has made the id
abbrev pub is_made : ℕ → ℕ → ℕ → Bool
is_made rows next id = nat_lt rows id && nat_lt id next

-- `7`, or `-2` for the second id before the next one
abbrev pub id_word : Spelling → ℕ → List ℕ
id_word Plain id = decimal id
id_word (Relative rows next) id = if is_made rows next id then codes "-" ++ decimal (next - id) else decimal id

-- whether the word of the id counts back
abbrev pub is_back : Spelling → ℕ → Bool
is_back Plain id = false
is_back (Relative rows next) id = is_made rows next id

-- ---- lines and the next id

-- the line makes no id of 2^63 or more, where ids are counted
abbrev pub FitsNext : Spelling → Line → Type 0
FitsNext Plain line = Unit {0}
FitsNext (Relative rows next) line = next + made line ≤ 2 ^ 63

-- how the ids after this line are spelled
abbrev pub after_line : Spelling → Line → Spelling
after_line Plain line = Plain
after_line (Relative rows next) line = Relative rows (next + made line)

-- ---- runs of ids

-- whether the id goes on the piece of these, which has room for it
abbrev pub belongs : ℕ → ℕ → ℕ → Bool
belongs first last id = id == last + 1 && nat_lt last (first + 1023)

-- The first and the last id of each piece of ids that follow one another: of one up to `last`, and of those that come after. A piece
-- has at most 1,024.
unfoldable pub pieces_from : ℕ → ℕ → List ℕ → List (ℕ × ℕ)
pieces_from first last [] = (first, last) ∷ []
pieces_from first last (id ∷ ids) = if belongs first last id then pieces_from first id ids else (first, last) ∷ pieces_from id id ids

-- ids, cut from the left into pieces of ids that follow one another
unfoldable pub pieces : List ℕ → List (ℕ × ℕ)
pieces [] = []
pieces (id ∷ ids) = pieces_from id id ids

-- the ids of a piece
abbrev pub piece_ids : ℕ × ℕ → List ℕ
piece_ids p = range_with_len p.0 ((p.1 + 1) - p.0)

-- two ids stand singly
abbrev pub spelled_piece : ℕ × ℕ → List (ℕ × ℕ)
spelled_piece p = if p.1 == p.0 + 1 then (p.0, p.0) ∷ (p.1, p.1) ∷ [] else p ∷ []

-- the pieces, each of which is one word
abbrev pub spelled_pieces : List ℕ → List (ℕ × ℕ)
spelled_pieces ids = flat_map spelled_piece (pieces ids)

-- `7`, or `2..5`
abbrev pub piece_word : Spelling → ℕ × ℕ → List ℕ
piece_word spelling p = if p.0 == p.1 then id_word spelling p.0 else id_word spelling p.0 ++ (codes ".." ++ id_word spelling p.1)

-- the words of ids that are deleted
abbrev pub deleted_words : Spelling → List ℕ → List (List ℕ)
deleted_words Plain ids = map (id_word Plain) ids
deleted_words (Relative rows next) ids = map (piece_word (Relative rows next)) (spelled_pieces ids)
