-- What a log that is read in pieces comes to, by what takes its lines. `whole` says which line is refused by bytes that
-- are there, whatever follows them, and `every` what is the first that is wrong with a log.
use Rattle.std.specs.Prelude.{ℕ, ◌-◌, ◌<◌, ◌≤◌, ◌^◌, ◌⊎◌, List, length, take}
use Rattle.proof_laws.specs.declared.why.Why.{Why}

-- no line is refused by bytes that are there
abbrev pub RefusesNone : (List ℕ → ℕ → Why → Type 0) → List ℕ → Type 0
RefusesNone whole bytes = (k : ℕ) (why : Why) → whole bytes k why → ⊥

-- the log's first fault, where the log is one that is taken; or a line is refused by the bytes before the limit
abbrev pub IsTakenFault : (whole every : List ℕ → ℕ → Why → Type 0) → List ℕ → ℕ → Why → Type 0
IsTakenFault whole every log k why = ((length log < 2 ^ 62) × every log k why) ⊎ whole (take (2 ^ 62 - 1) log) k why

-- the log is too large, and no line is refused by the bytes before the limit
abbrev pub IsTooLarge : (whole : List ℕ → ℕ → Why → Type 0) → List ℕ → Type 0
IsTooLarge whole log = (2 ^ 62 ≤ length log) × RefusesNone whole (take (2 ^ 62 - 1) log)
