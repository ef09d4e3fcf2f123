-- What a log that is read line by line holds: its lines, and the first that is wrong.
use Rattle.std.specs.Prelude.{◌≡◌, ℕ, zero, suc, ◌-◌, ◌<◌, ◌≤◌, ◌^◌, ◌⊎◌, List, [], length, take, Option}
use Rattle.scut_base.specs.Files.{Files}
use Rattle.proof_laws.specs.declared.line.Line.{Line}
use Rattle.proof_text.specs.LogText.{BeginsWith, IsHeaderPart, IsOneLine, IsSyntaxAt, IsUnfinishedAt, SpellsLog}
use Rattle.command_base.specs.Causes.{HasText}

-- the bytes of a log before the limit
abbrev pub before_limit : List ℕ → List ℕ
before_limit log = take (2 ^ 62 - 1) log

-- no line is wrong by bytes that are there
abbrev pub HasNoWrongLine : List ℕ → Type 0
HasNoWrongLine bytes = (k : ℕ) → IsSyntaxAt bytes k → ⊥

-- Line k is the first that is wrong: by the bytes before the limit, whatever follows; or the log has no more, and ends in its midst.
abbrev pub IsFirstWrong : List ℕ → ℕ → Type 0
IsFirstWrong log k = IsSyntaxAt (before_limit log) k ⊎ ((length log < 2 ^ 62) × HasNoWrongLine log × IsUnfinishedAt log k)

-- these are the lines before line k; the header is the first
abbrev pub AreBefore : List ℕ → ℕ → List Line → Type 0
AreBefore log zero lines = ⊥
AreBefore log (suc zero) lines = lines ≡ []
AreBefore log (suc (suc n)) lines = (length lines ≡ n) × ((rest : List ℕ) × BeginsWith log lines rest)

-- these are all whole lines of the bytes
abbrev pub AreAllWhole : List ℕ → List Line → Type 0
AreAllWhole bytes lines = ((lines ≡ []) × IsHeaderPart bytes) ⊎ ((rest : List ℕ) × BeginsWith bytes lines rest × IsOneLine rest)

-- a log that is no larger than it may be spells these lines
pub record IsLogOf (lines : List Line) (log : List ℕ) : Type 0 where
  pub taken : length log < 2 ^ 62
  pub spelled : SpellsLog log lines

-- line k of the log is wrong, after these
pub record IsWrongAfter (lines : List Line) (k : ℕ) (log : List ℕ) : Type 0 where
  pub wrong : IsFirstWrong log k
  pub before : AreBefore log k lines

-- The log is too large; before the limit no line is wrong, and these are the whole ones.
pub record IsLargeAfter (lines : List Line) (log : List ℕ) : Type 0 where
  pub large : 2 ^ 62 ≤ length log
  pub right : HasNoWrongLine (before_limit log)
  pub whole : AreAllWhole (before_limit log) lines

-- lines that the file begins with, or none
abbrev pub AreOf : Option Files → List ℕ → List Line → Type 0
AreOf files name lines = (lines ≡ []) ⊎ HasText files name (λ log. (rest : List ℕ) × BeginsWith log lines rest)
