-- Bytes that are taken off the front, line by line; nothing of it has to be believed.
use Rattle.std.specs.Prelude.{◌≡◌, ℕ, ◌+◌, ◌<◌, ◌≤◌, List, length, take, drop, codes}
use Rattle.scut_base.specs.Files.{IsPrefixOf}
use Rattle.proof_text.specs.Versions.{IsFirst, header_line, header_text}
use Rattle.proof_text.specs.LogText.{IsHeaderPart, IsOneLine, IsWholeLine, HasWrongHeader}
use Rattle.proof_text.specs.declared.opening.Opening.{Opening}
use Rattle.proof_text.specs.declared.opening.Opening.TheVariants.{Missing, There, Wrong}

-- n bytes stand before the first line feed
pub record IsLineOf (bytes : List ℕ) (n : ℕ) : Type 0 where
  pub short : n < length bytes
  pub line : IsWholeLine bytes (take n bytes) (drop (n + 1) bytes)

-- Bytes from a place on, of which the first n were searched, and have no line feed.
pub record IsSearched (bytes : List ℕ) (at n : ℕ) : Type 0 where
  pub within : at + n ≤ length bytes
  pub one : IsOneLine (take n (drop at bytes))

-- the header of version 2, up to its number
abbrev pub rows_words : List ℕ
rows_words = codes "scuttle proof version 2 rows "

-- what the bytes begin with
abbrev pub IsOpening : Opening → List ℕ → Type 0
IsOpening Missing bytes = IsHeaderPart bytes
IsOpening (There first len) bytes = IsFirst first × IsPrefixOf (header_line first) bytes × (len ≡ length (header_text first))
IsOpening Wrong bytes = HasWrongHeader bytes
