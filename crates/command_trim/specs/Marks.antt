-- Marks of ids, as the walk back over a proof keeps them.
use Rattle.std.specs.Prelude.{◌≡◌, ℕ, ◌+◌, ◌-◌, ◌<◌, Bool, true, false, nat_lt, if◌then◌else◌, List, [], ◌∷◌, length, slice_set, slice_index_or}
use Rattle.proof_laws.specs.Steps.{made}
use Rattle.proof_laws.specs.declared.line.Line.{Line}
use Rattle.command_trim.specs.Trimmed.{ids_named, is_in}

-- the marks with that of an id, where it has one
abbrev pub marked : ℕ → List Bool → ℕ → List Bool
marked rows marks id = if nat_lt rows id then slice_set marks (id - rows - 1) true else marks

-- marked are those among these ids
abbrev pub AreMarked : ℕ → List Bool → List ℕ → Type 0
AreMarked rows marks ids = (k : ℕ) → k < length marks → slice_index_or marks k false ≡ is_in (rows + 1 + k) ids

-- how many ids the lines make
abbrev pub made_by : List Line → ℕ
made_by [] = 0
made_by (line ∷ lines) = made line + made_by lines

-- what a line names, if it is needed
abbrev pub named_if : Bool → Line → List ℕ
named_if need line = if need then ids_named line else []
