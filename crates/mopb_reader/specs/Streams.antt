-- Tokens that are left, and what may be read from them.
use Rattle.std.specs.Prelude.{◌≡◌, ℕ, Bool, true, false, ◌+◌, List, [], ◌∷◌, ◌++◌, length, map, Option, Some, None}
use Rattle.mopb_reader.specs.Tokens.{tokens_in, lines_of, numbered_tokens, plain}
use Rattle.mopb_reader.specs.Cuts.{IsSound}
use Rattle.mopb_reader.specs.declared.token.Token.{Token}
use Rattle.mopb_reader.specs.declared.token.Token.TheVariants.{Sign, Number, Literal, Misspelled, Relation}

-- The tokens left with their lines, the line that the text ends in, and that of the token taken
-- last, or the last line where none is left.
pub record Stream : Type 0 where
  pub left : List (ℕ × Token)
  pub last : ℕ
  pub line : ℕ

-- the numbered tokens of what follows a line, if anything does
abbrev pub numbered_rest : ℕ → Option (List ℕ) → List (ℕ × Token)
numbered_rest number None = []
numbered_rest number (Some text) = numbered_tokens number (lines_of text)

-- the numbered tokens of a line from here on, and of what follows it
abbrev pub numbered_from : ℕ → List ℕ → Option (List ℕ) → List (ℕ × Token)
numbered_from number line rest =
    map (λ t. (number, t)) (tokens_in line) ++ numbered_rest (number + 1) rest

-- the line and what follows it have the text's tokens, whatever the number of its first line is
abbrev pub HasTokens : List ℕ → List ℕ → Option (List ℕ) → Type 0
HasTokens text line rest =
    (number : ℕ) → numbered_from number line rest ≡ numbered_tokens number (lines_of text)

-- how many lines follow a line
abbrev pub lines_after : Option (List ℕ) → ℕ
lines_after None = 0
lines_after (Some text) = length (lines_of text)

-- the tokens from here on in a line, and of what follows it
abbrev pub stream_from : ℕ → List ℕ → Option (List ℕ) → Stream
stream_from number line rest = record {
  left = numbered_from number line rest;
  last = number + lines_after rest;
  line = number;
}

-- the first token was taken, with its line, or there was none
abbrev pub IsTaken : Option Token → Stream → Stream → Type 0
IsTaken None new old = (old.left ≡ []) × (new.left ≡ []) × (new.line ≡ old.last)
IsTaken (Some token) new old = old.left ≡ (new.line, token) ∷ new.left

-- the tokens left with the one that was taken before them, if there was one
abbrev pub ahead : Option Token → Stream → List Token
ahead None s = plain s.left
ahead (Some token) s = token ∷ plain s.left

-- a variable that was taken is at least 1
abbrev pub IsSoundTaken : Option Token → Type 0
IsSoundTaken None = Unit {0}
IsSoundTaken (Some token) = IsSound token

-- the token is `of` what was answered, or of nothing
abbrev pub IsOf : {X : Type 0} → (X → Token) → Option Token → Option X → Type 0
IsOf {X} of token None = (x : X) → token ≡ Some (of x) → ⊥
IsOf {X} of token (Some x) = token ≡ Some (of x)

-- the token begins a literal, well spelled or not
abbrev pub begins_literal : Option Token → Bool
begins_literal (Some (Literal var neg)) = true
begins_literal (Some Misspelled) = true
begins_literal token = false

-- the token begins a term, well spelled or not
abbrev pub begins_term : Option Token → Bool
begins_term (Some (Sign minus)) = true
begins_term (Some (Number value)) = true
begins_term token = begins_literal token

-- the token begins a constraint, well spelled or not
abbrev pub begins_row : Token → Bool
begins_row (Relation rel) = true
begins_row token = begins_term (Some token)
