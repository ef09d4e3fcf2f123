-- A line cut into lexemes: the tokens as they are written, and the blanks between them.
use Rattle.std.specs.Prelude.{ℕ, Bool, true, false, ◌==◌, ◌||◌, ◌&&◌, if◌then◌else◌, List, [], ◌∷◌}
use Rattle.std.specs.Char.{is_ascii_digit}
use Rattle.scut_base.specs.Number.{natural_value}
use Rattle.instance.specs.declared.objective.Sense.{Sense}
use Rattle.instance.specs.declared.objective.Sense.TheVariants.{Min, Max}
use Rattle.instance.specs.declared.row.Rel.{Rel}
use Rattle.instance.specs.declared.row.Rel.TheVariants.{AtLeast, AtMost, Equal}

pub data Lexeme : Type 0 where
  -- a space, a tab or a carriage return
  Blank : Lexeme
  -- a minus, or a plus
  Sign : Bool → Lexeme
  -- a run of digits
  Digits : List ℕ → Lexeme
  -- `x` or, where it is negated, `~x`, directly followed by digits of a value of at least 1
  Literal : List ℕ → Bool → Lexeme
  -- `min:` or `max:`
  Head : Sense → Lexeme
  Relation : Rel → Lexeme
  Semicolon : Lexeme
  -- any other byte by itself
  Other : ℕ → Lexeme

abbrev pub is_blank : ℕ → Bool
is_blank b = b == 32 || b == 9 || b == 13

-- a digit before what follows
abbrev pub with_digit : ℕ → List Lexeme → List Lexeme
with_digit b (Digits ds ∷ rest) = Digits (b ∷ ds) ∷ rest
with_digit b rest = Digits (b ∷ []) ∷ rest

-- an `x` before what follows
abbrev pub with_x : List Lexeme → List Lexeme
with_x (Digits ds ∷ rest) =
    if natural_value ds == 0 then Other 120 ∷ Digits ds ∷ rest else Literal ds false ∷ rest
with_x rest = Other 120 ∷ rest

-- a `~` before what follows
abbrev pub with_tilde : List Lexeme → List Lexeme
with_tilde (Literal ds false ∷ rest) = Literal ds true ∷ rest
with_tilde rest = Other 126 ∷ rest

-- an `m` before what follows: it begins a head before `in:` and before `ax:`
abbrev pub with_m : List Lexeme → List Lexeme
with_m (Other a ∷ Other b ∷ Other c ∷ rest) =
    if a == 105 && b == 110 && c == 58 then Head Min ∷ rest
    else if a == 97 && b == 120 && c == 58 then Head Max ∷ rest
    else Other 109 ∷ Other a ∷ Other b ∷ Other c ∷ rest
with_m rest = Other 109 ∷ rest

-- a `>` before what follows
abbrev pub with_greater : List Lexeme → List Lexeme
with_greater (Relation Equal ∷ rest) = Relation AtLeast ∷ rest
with_greater rest = Other 62 ∷ rest

-- a `<` before what follows
abbrev pub with_less : List Lexeme → List Lexeme
with_less (Relation Equal ∷ rest) = Relation AtMost ∷ rest
with_less rest = Other 60 ∷ rest

-- a byte before what follows: it is joined to the lexeme that begins there directly, where both are
-- one
abbrev pub with_byte : ℕ → List Lexeme → List Lexeme
with_byte b rest =
    if is_blank b then Blank ∷ rest
    else if is_ascii_digit b then with_digit b rest
    else if b == 120 then with_x rest
    else if b == 126 then with_tilde rest
    else if b == 109 then with_m rest
    else if b == 62 then with_greater rest
    else if b == 60 then with_less rest
    else if b == 43 then Sign false ∷ rest
    else if b == 45 then Sign true ∷ rest
    else if b == 61 then Relation Equal ∷ rest
    else if b == 59 then Semicolon ∷ rest
    else Other b ∷ rest

abbrev pub lexemes_of : List ℕ → List Lexeme
lexemes_of [] = []
lexemes_of (b ∷ bs) = with_byte b (lexemes_of bs)
