-- What a table of slots says of an id.
use Rattle.std.specs.Prelude.{ℕ, zero, suc, List, Option, Some, None, slice_index_or}

-- a number of the table: one more than a slot, or 0 for none
abbrev pub slot_of : ℕ → Option ℕ
slot_of zero = None
slot_of (suc slot) = Some slot

-- the slot of an id
abbrev pub slot_in : List ℕ → ℕ → Option ℕ
slot_in table id = slot_of (slice_index_or table id 0)
