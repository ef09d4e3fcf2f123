-- A file that is read whole.
use Rattle.std.specs.Prelude.{◌≡◌, ℕ, ◌≤◌, ◌^◌, List, length, Option, Some}
use Rattle.scut_base.specs.Files.{Files, content, IsTold}

-- the file is there and holds these bytes, where the files are told
abbrev pub IsWhole : Option Files → List ℕ → List ℕ → Type 0
IsWhole files name bytes = IsTold files → content files name ≡ Some bytes

-- the file is there and holds 2^32 bytes or more, where the files are told
abbrev pub IsLarge : Option Files → List ℕ → Type 0
IsLarge files name = IsTold files → (bytes : List ℕ) × (content files name ≡ Some bytes) × (2 ^ 32 ≤ length bytes)
