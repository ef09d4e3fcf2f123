-- A text as tokens, each with its line.
use Rattle.std.specs.Prelude.{ℕ, Bool, false, ◌+◌, ◌==◌, ◌||◌, nat_lt, if◌then◌else◌, List, [], ◌∷◌, ◌++◌, map, Option, Some, None}
use Rattle.std.specs.List.{flat_map, slice_split}
use Rattle.scut_base.specs.Number.{natural_value}
use Rattle.instance.specs.Shape.{magnitude_limit}
use Rattle.mopb_reader.specs.Lexemes.{Lexeme, Blank, Sign, Digits, Literal, Head, Relation, Semicolon, Other, is_blank, lexemes_of}
use Rattle.mopb_reader.specs.declared.token.Token.{Token}
use Rattle.mopb_reader.specs.declared.token.Token.TheVariants.{Sign as SignToken, Number, Literal as LiteralToken, Misspelled, Head as HeadToken, Relation as RelationToken, Semicolon as SemicolonToken, Unknown}

-- the value of digits, or none where it is too wide
abbrev pub small_value : List ℕ → Option ℕ
small_value ds = if nat_lt (natural_value ds) magnitude_limit then Some (natural_value ds) else None

-- An `x` or a `~` that begins no literal: it begins one wrongly.
abbrev pub token_of_byte : ℕ → Token
token_of_byte b = if b == 120 || b == 126 then Misspelled else Unknown

-- the token of a lexeme; a blank is none
abbrev pub token_of : Lexeme → List Token
token_of Blank = []
token_of (Sign minus) = SignToken minus ∷ []
token_of (Digits ds) = Number (small_value ds) ∷ []
token_of (Literal ds neg) = LiteralToken (small_value ds) neg ∷ []
token_of (Head sense) = HeadToken sense ∷ []
token_of (Relation rel) = RelationToken rel ∷ []
token_of Semicolon = SemicolonToken ∷ []
token_of (Other b) = token_of_byte b ∷ []

-- the tokens of a line that is no comment
abbrev pub tokens_in : List ℕ → List Token
tokens_in line = flat_map token_of (lexemes_of line)

-- the first byte other than a blank is `*`
abbrev pub is_comment : List ℕ → Bool
is_comment [] = false
is_comment (b ∷ bs) = if is_blank b then is_comment bs else b == 42

-- the tokens of a line; a comment has none
abbrev pub tokens_in_line : List ℕ → List Token
tokens_in_line line = if is_comment line then [] else tokens_in line

-- the parts between line feeds
abbrev pub lines_of : List ℕ → List (List ℕ)
lines_of text = slice_split (λ b. b == 10) text

-- the tokens of lines, each with the number of its line
abbrev pub numbered_tokens : ℕ → List (List ℕ) → List (ℕ × Token)
numbered_tokens number [] = []
numbered_tokens number (line ∷ lines) =
    map (λ t. (number, t)) (tokens_in_line line) ++ numbered_tokens (number + 1) lines

-- tokens without their lines
abbrev pub plain : List (ℕ × Token) → List Token
plain tokens = map (λ t. t.1) tokens

-- the tokens of a text
abbrev pub tokens_of : List ℕ → List Token
tokens_of text = plain (numbered_tokens 1 (lines_of text))
