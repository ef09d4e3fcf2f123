-- Words of 32 bits: codes of literals, and what marks that a clause begins.
use Rattle.std.specs.Prelude.{ℕ, ◌^◌, ◌<◌, List, All}

-- the bit of the words at which clauses begin
abbrev pub mark : ℕ
mark = 2 ^ 31

-- a word that is the code of a literal
abbrev pub IsCode : ℕ → Type 0
IsCode n = (1 < n) × (n < mark)

-- words that are the codes of literals
abbrev pub AreCodes : List ℕ → Type 0
AreCodes words = All IsCode words
