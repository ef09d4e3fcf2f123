-- Where a text and its lines are cut.
use Rattle.std.specs.Prelude.{◌≡◌, ◌≢◌, ℕ, ◌+◌, ◌<◌, false, List, [], ◌∷◌, length, Option, Some, None}
use Rattle.scut_base.specs.Number.{natural_value}
use Rattle.instance.specs.declared.objective.Sense.{Sense}
use Rattle.instance.specs.declared.objective.Sense.TheVariants.{Min, Max}
use Rattle.mopb_reader.specs.Lexemes.{Lexeme, Digits, Other, is_blank, with_x, lexemes_of}
use Rattle.mopb_reader.specs.Tokens.{token_of, small_value}
use Rattle.mopb_reader.specs.declared.token.Token.{Token}
use Rattle.mopb_reader.specs.declared.token.Token.TheVariants.{Literal}

-- how much follows a line
abbrev pub rest_size : Option (List ℕ) → ℕ
rest_size None = 0
rest_size (Some text) = length text + 1

-- the line is empty, or begins with a token
abbrev pub BeginsNoBlank : List ℕ → Type 0
BeginsNoBlank [] = Unit {0}
BeginsNoBlank (b ∷ bs) = is_blank b ≡ false

-- a variable is at least 1
abbrev pub IsSound : Token → Type 0
IsSound (Literal (Some var) neg) = 0 < var
IsSound token = Unit {0}

-- the lexemes are that of the token, and those of the text after it
abbrev pub HasFront : List Lexeme → Token → List ℕ → Type 0
HasFront lexemes token rest =
    (l : Lexeme) × (lexemes ≡ l ∷ lexemes_of rest) × (token_of l ≡ token ∷ []) × IsSound token

-- the lexemes do not begin with digits
abbrev pub BeginsNoDigits : List Lexeme → Type 0
BeginsNoDigits (Digits digits ∷ lexemes) = ⊥
BeginsNoDigits lexemes = Unit {0}

-- the text begins with these digits, and no digit follows them
abbrev pub BeginsWithDigits : List ℕ → List ℕ → List ℕ → Type 0
BeginsWithDigits text ds rest = lexemes_of text ≡ Digits ds ∷ lexemes_of rest

-- the text begins with digits of this value, at least 1
abbrev pub HasVariable : List ℕ → Option ℕ → List ℕ → Type 0
HasVariable text var rest =
    (ds : List ℕ) × BeginsWithDigits text ds rest × (var ≡ small_value ds)
    × (0 < natural_value ds)

-- what follows the `m` of an objective's head
abbrev pub after_m : Sense → List ℕ → List ℕ
after_m Min rest = 105 ∷ 110 ∷ 58 ∷ rest
after_m Max rest = 97 ∷ 120 ∷ 58 ∷ rest

-- the text does not go on with a head
abbrev pub BeginsNoHead : List ℕ → Type 0
BeginsNoHead text = (sense : Sense) (rest : List ℕ) → text ≡ after_m sense rest → ⊥

-- an `x` before the text stands alone
abbrev pub LeavesX : List ℕ → Type 0
LeavesX text = with_x (lexemes_of text) ≡ Other 120 ∷ lexemes_of text

-- the text does not begin with this byte
abbrev pub IsNotBefore : ℕ → List ℕ → Type 0
IsNotBefore byte [] = Unit {0}
IsNotBefore byte (b ∷ bs) = b ≢ byte
