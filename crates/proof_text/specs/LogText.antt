-- Which bytes are the text of which lines, and where other bytes go wrong.
use Rattle.std.specs.Prelude.{◌≡◌, ◌≢◌, ℕ, zero, suc, ◌+◌, ◌==◌, ◌⊎◌, List, [], ◌∷◌, ◌++◌, length, All, Contains}
use Rattle.std.specs.List.{count_by}
use Rattle.scut_base.specs.Bytes.{newline}
use Rattle.scut_base.specs.Files.{IsPrefixOf}
use Rattle.proof_laws.specs.WellFormed.{IsWellFormed}
use Rattle.proof_laws.specs.declared.line.Line.{Line}
use Rattle.proof_lines.specs.LineText.{SpellsNoLine}
use Rattle.proof_lines.specs.declared.spelling.Spelling.{Spelling}
use Rattle.proof_text.specs.Versions.{IsFirst, AllFit, after_lines, header_line, header_text, log_text}

-- The bytes begin with the text of a log of these lines, in either version, and the rest follows.
pub record BeginsWith (bytes : List ℕ) (lines : List Line) (rest : List ℕ) : Type 0 where
  pub first : Spelling
  pub version : IsFirst first
  pub formed : All IsWellFormed lines
  pub fit : AllFit first lines
  pub is : bytes ≡ log_text first lines ++ rest

-- the bytes are the text of a log of these lines
abbrev pub SpellsLog : List ℕ → List Line → Type 0
SpellsLog bytes lines = BeginsWith bytes lines []

-- no line feed stands there
abbrev pub IsOneLine : List ℕ → Type 0
IsOneLine text = Contains text newline → ⊥

-- The rest begins with a whole line: this text, then a line feed.
pub record IsWholeLine (rest text after : List ℕ) : Type 0 where
  pub one : IsOneLine text
  pub is : rest ≡ text ++ newline ∷ after

-- the bytes are a beginning of a header, without its line feed
abbrev pub IsHeaderPart : List ℕ → Type 0
IsHeaderPart bytes = (first : Spelling) × IsFirst first × IsPrefixOf bytes (header_text first)

-- The bytes neither begin with a header line nor are a beginning of a header: wherever they go on, it isn't the first line.
abbrev pub HasWrongHeader : List ℕ → Type 0
HasWrongHeader bytes = ((first : Spelling) → IsFirst first → IsPrefixOf (header_line first) bytes → ⊥) × (IsHeaderPart bytes → ⊥)

-- After n lines comes a whole line that is the text of none.
pub record GoesWrongAfter (bytes : List ℕ) (n : ℕ) : Type 0 where
  pub lines : List Line
  pub rest : List ℕ
  pub begins : BeginsWith bytes lines rest
  pub right : length lines ≡ n
  pub text : List ℕ
  pub after : List ℕ
  pub line : IsWholeLine rest text after
  pub wrong : SpellsNoLine (after_lines begins.first lines) text

-- The first line that is wrong, by its number from 1 and by bytes that are there, whatever follows: the first is another than the
-- header, or a later one is whole and the text of none.
abbrev pub IsSyntaxAt : List ℕ → ℕ → Type 0
IsSyntaxAt bytes zero = ⊥
IsSyntaxAt bytes (suc zero) = HasWrongHeader bytes
IsSyntaxAt bytes (suc (suc n)) = GoesWrongAfter bytes n

-- nothing, or text that ends with a line feed
abbrev pub IsWholeLines : List ℕ → Type 0
IsWholeLines text = (text ≡ []) ⊎ ((before : List ℕ) × (text ≡ before ++ newline ∷ []))

-- a header is there, and no bytes without a line feed are left
pub record IsWhole (bytes : List ℕ) : Type 0 where
  pub first : Spelling
  pub version : IsFirst first
  pub after : List ℕ
  pub is : bytes ≡ header_line first ++ after
  pub whole : IsWholeLines after

abbrev pub newlines : List ℕ → ℕ
newlines text = count_by (λ b. b == newline) text

-- The bytes end in the midst of line k; or there are none, and the header is missing.
pub record IsUnfinishedAt (bytes : List ℕ) (k : ℕ) : Type 0 where
  pub before : List ℕ
  pub text : List ℕ
  pub is : bytes ≡ before ++ text
  pub whole : IsWholeLines before
  pub one : IsOneLine text
  pub some : (text ≢ []) ⊎ (before ≡ [])
  pub number : newlines before + 1 ≡ k

-- The header isn't whole yet; or no whole line follows these lines.
abbrev pub HoldsNoFurtherLine : List ℕ → List Line → Type 0
HoldsNoFurtherLine bytes lines = IsHeaderPart bytes ⊎ ((rest : List ℕ) × BeginsWith bytes lines rest × IsOneLine rest)
