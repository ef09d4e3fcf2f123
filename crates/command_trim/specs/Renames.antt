-- The new ids of lines, as the walk over a proof keeps them.
use Rattle.std.specs.Prelude.{ℕ, ◌+◌, ◌==◌, if◌then◌else◌, List, [], ◌∷◌, ◌++◌, length}
use Rattle.proof_laws.specs.declared.line.Line.{Line}
use Rattle.proof_laws.specs.declared.line.Line.TheVariants.{Def, Del, Reduce, End}
use Rattle.command_trim.specs.Trimmed.{Renaming}

-- how many rows there are, and for each id that a line has made, in their order, the new one, or 0 where there is none
pub record RenamesValue : Type 0 where
  pub rows : ℕ
  pub table : List ℕ

-- the pairs of old and new ids, the latest first, where the first of these is that of the old id `first`
abbrev pub pairs : ℕ → List ℕ → List (ℕ × ℕ)
pairs first [] = []
pairs first (id ∷ ids) = pairs (first + 1) ids ++ (if id == 0 then [] else (first, id) ∷ [])

-- what it stands for
abbrev pub renaming : RenamesValue → Renaming
renaming v = record { rows = v.rows; made = pairs (v.rows + 1) v.table }

-- the id that the next line makes
abbrev pub next_one : RenamesValue → ℕ
next_one v = v.rows + 1 + length v.table

-- the new ids of a line that is kept, of which this is the first
abbrev pub new_of : Line → ℕ → List ℕ
new_of (Def var sum) new = new ∷ (new + 1) ∷ []
new_of (Del ids) new = []
new_of (Reduce ids) new = []
new_of (End id) new = []
new_of line new = new ∷ []

-- none for each id of a line that isn't
abbrev pub none_of : Line → List ℕ
none_of (Def var sum) = 0 ∷ 0 ∷ []
none_of (Del ids) = []
none_of (Reduce ids) = []
none_of (End id) = []
none_of line = 0 ∷ []

-- with these after the others
abbrev pub added : RenamesValue → List ℕ → RenamesValue
added v ids = record v { table = v.table ++ ids }
