-- What a table of ids says of one; nothing of it has to be believed.
use Rattle.std.specs.Prelude.{◌≡◌, ℕ, zero, suc, ◌<◌, List, Option, Some, None, length, slice_index_or}

-- a number of the table: one more than a place, or 0 for none
abbrev pub place_of : ℕ → Option ℕ
place_of zero = None
place_of (suc place) = Some place

-- the place of an id
abbrev pub place_in : List ℕ → ℕ → Option ℕ
place_in table id = place_of (slice_index_or table id 0)

-- The table has the places of these ids, which are so many, and of no others.
pub record PlacesIds (table ids : List ℕ) (count : ℕ) : Type 0 where
  pub counted : length ids ≡ count
  pub placed : (k d : ℕ) → k < length ids → place_in table (slice_index_or ids k d) ≡ Some k
  pub named : (id k : ℕ) → place_in table id ≡ Some k → (k < length ids) × ((d : ℕ) → slice_index_or ids k d ≡ id)
