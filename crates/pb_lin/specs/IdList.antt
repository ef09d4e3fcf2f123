-- The list of ids in rising order beside a table of them; nothing of it has to be believed.
use Rattle.std.specs.Prelude.{ℕ, ◌<◌, List, Option, nat_eq, IsSome, IsTrue, AllPairs}
use Rattle.std.specs.List.{list_any}

-- the ids rise
abbrev pub IsRising : List ℕ → Type 0
IsRising ids = AllPairs (λ i j. i < j) ids

abbrev pub IsListed : List ℕ → ℕ → Type 0
IsListed ids id = IsTrue (list_any (nat_eq id) ids)

-- the ids rise, and each at which something is held is among them
pub record ListsIds (held : ℕ → Option ℕ) (ids : List ℕ) : Type 0 where
  pub rising : IsRising ids
  pub listed : (id : ℕ) → IsSome (held id) → IsListed ids id
