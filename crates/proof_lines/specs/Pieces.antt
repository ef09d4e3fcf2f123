-- What the private readers and printers of runs of ids answer. No public contract stands on it.
use Rattle.std.specs.Prelude.{◌≡◌, ℕ, ◌+◌, ◌-◌, ◌<◌, ◌≤◌, ◌⊎◌, ◌==◌, Bool, true, List, ◌++◌, Option, None, Some, codes}
use Rattle.std.specs.Fmt.{decimal}
use Rattle.std.specs.List.{flat_map}
use Rattle.proof_laws.specs.WellFormed.{IsId}
use Rattle.proof_lines.specs.declared.spelling.Spelling.{Spelling}
use Rattle.proof_lines.specs.Ids.{id_word, is_made, pieces_from, spelled_piece}

-- the id that a line made and that stands so many before the next one as the digits say, or none
abbrev pub IsBack : ℕ → ℕ → List ℕ → Option ℕ → Type 0
IsBack rows next digits None = (id : ℕ) → is_made rows next id ≡ true → digits ≡ decimal (next - id) → ⊥
IsBack rows next digits (Some id) = (is_made rows next id ≡ true) × (digits ≡ decimal (next - id))

-- three ids or more
abbrev pub IsRun : ℕ × ℕ → Type 0
IsRun p = (p.0 + 2 ≤ p.1) × (p.1 < p.0 + 1024)

-- one id, or three or more, as one word spells them
pub record IsPiece (p : ℕ × ℕ) : Type 0 where
  pub first : IsId p.0
  pub last : IsId p.1
  pub long : (p.0 ≡ p.1) ⊎ IsRun p

abbrev pub is_dot : ℕ → Bool
is_dot b = b == 46

-- the run whose first id this word spells, and whose last one this word after `..`
abbrev pub IsRunOf : Spelling → List ℕ → List ℕ → Option (ℕ × ℕ) → Type 0
IsRunOf spelling head tail None = (p : ℕ × ℕ) → IsPiece p → IsRun p → head ≡ id_word spelling p.0 → tail ≡ codes ".." ++ id_word spelling p.1 → ⊥
IsRunOf spelling head tail (Some p) = IsPiece p × IsRun p × (head ≡ id_word spelling p.0) × (tail ≡ codes ".." ++ id_word spelling p.1)

-- the pieces of one that goes on, and of the ids after it
abbrev pub pieces_after : ℕ × ℕ → List ℕ → List (ℕ × ℕ)
pieces_after p ids = flat_map spelled_piece (pieces_from p.0 p.1 ids)
