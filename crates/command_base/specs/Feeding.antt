-- A log file that is fed piece by piece to what takes its lines.
use Rattle.std.specs.Prelude.{◌≡◌, ℕ, List, length, take, Option, Some}
use Rattle.scut_base.specs.Files.{Files, content}
use Rattle.proof_laws.specs.declared.why.Why.{Why}
use Rattle.command_base.specs.Taking.{RefusesNone}
use Rattle.command_base.specs.WholeFile.{IsWhole}

-- It was fed these many bytes, the first of the file, whatever the file holds; no line of them is refused.
pub record IsFedSoFar (files : Option Files) (name : List ℕ) (Stands : List ℕ → Type 0) (whole : List ℕ → ℕ → Why → Type 0) (n : ℕ) : Type 0 where
  pub fed : List ℕ
  pub count : length fed ≡ n
  pub first : (bytes : List ℕ) → content files name ≡ Some bytes → fed ≡ take (length fed) bytes
  pub stands : Stands fed
  pub passed : RefusesNone whole fed

-- It was fed the whole file.
pub record IsFedWhole (files : Option Files) (name : List ℕ) (Stands : List ℕ → Type 0) (whole : List ℕ → ℕ → Why → Type 0) (n : ℕ) : Type 0 where
  pub so_far : IsFedSoFar files name Stands whole n
  pub all : IsWhole files name so_far.fed

-- It stands for bytes that are the whole file.
pub record IsTaken (files : Option Files) (name : List ℕ) (Stands : List ℕ → Type 0) : Type 0 where
  pub bytes : List ℕ
  pub stands : Stands bytes
  pub all : IsWhole files name bytes
