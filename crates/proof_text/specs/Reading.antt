-- What a reader of a log stands for.
use Rattle.std.specs.Prelude.{◌≡◌, ◌⊎◌, ℕ, ◌+◌, ◌≤◌, List, [], ◌∷◌, ◌++◌, length, Option, None, Some}
use Rattle.proof_laws.specs.declared.line.Line.{Line}
use Rattle.proof_lines.specs.Ids.{IsSpelling}
use Rattle.proof_lines.specs.declared.spelling.Spelling.{Spelling}
use Rattle.proof_text.specs.Versions.{after_lines}
use Rattle.proof_text.specs.LogText.{BeginsWith, IsHeaderPart, IsSyntaxAt, HoldsNoFurtherLine}

-- what a reader keeps: the number of lines that it has given; where the header was there, how the next line spells its ids; the bytes
-- that aren't given yet; and the line that was wrong
pub record ReaderValue : Type 0 where
  pub given : ℕ
  pub begun : Option Spelling
  pub rest : List ℕ
  pub wrong : Option ℕ

-- these bytes were fed, and these lines given, while none was wrong
abbrev pub HasRead : Option Spelling → List ℕ → List ℕ → List Line → Type 0
HasRead (Some spelling) rest bytes lines = (begins : BeginsWith bytes lines rest) × (spelling ≡ after_lines begins.first lines)
HasRead None rest bytes lines = (lines ≡ []) × (bytes ≡ rest)

-- the lines that were given are those that the bytes begin with
abbrev pub HasGiven : List ℕ → List Line → Type 0
HasGiven bytes lines = (lines ≡ []) ⊎ ((rest : List ℕ) × BeginsWith bytes lines rest)

-- The same by whether a line was wrong. It is the header or the line after those that were given; nothing more is kept of the bytes after it.
abbrev pub HasReadUpTo : Option ℕ → ReaderValue → List ℕ → List Line → Type 0
HasReadUpTo None r bytes lines = HasRead r.begun r.rest bytes lines
HasReadUpTo (Some k) r bytes lines = IsSyntaxAt bytes k × (k ≤ length lines + 2) × HasGiven bytes lines

-- The reader stands for these bytes, which were fed, and these lines, which it has given.
pub record StandsFor (r : ReaderValue) (bytes : List ℕ) (lines : List Line) : Type 0 where
  pub given : length lines ≡ r.given
  pub read : HasReadUpTo r.wrong r bytes lines

-- a further line was given, or there is no further whole line
abbrev pub GivesNext : ReaderValue → List ℕ → List Line → Option Line → Type 0
GivesNext new bytes lines (Some line) = StandsFor new bytes (lines ++ line ∷ [])
GivesNext new bytes lines None = StandsFor new bytes lines × HoldsNoFurtherLine bytes lines

-- before the header is whole no more than a part of one is kept; after it ids are spelled in a way that can be read
abbrev pub KeepsHeader : Option Spelling → List ℕ → Type 0
KeepsHeader None rest = IsHeaderPart rest
KeepsHeader (Some spelling) rest = IsSpelling spelling
