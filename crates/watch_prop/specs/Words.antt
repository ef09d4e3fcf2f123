-- Clauses that lie behind one another in one list of words. A clause begins with a word that has the mark and the number of its literals; the id of its line follows, in two words, and then the codes of its literals.
use Rattle.std.specs.Prelude.{ℕ, ◌+◌, ◌-◌, ◌*◌, ◌<◌, ◌≤◌, true, if◌then◌else◌, nat_lt, List, length, map, take, drop, slice_index_or}
use Rattle.std.specs.List.{range_with_len}
use Rattle.scut_base.specs.LiteralCode.{literal_of}
use Rattle.watch_prop.specs.Codes.{mark}
use Rattle.watch_prop.specs.Slot.{Slot}
use Rattle.watch_prop.specs.Watching.{no_slot}

-- a word
abbrev pub word : List ℕ → ℕ → ℕ
word words j = slice_index_or words j 0

-- where the clause ends that begins at a place
abbrev pub end_of : List ℕ → ℕ → ℕ
end_of words j = j + 3 + (word words j - mark)

-- the clause of a place whose word is marked
abbrev pub marked_at : List ℕ → ℕ → Slot
marked_at words j = record { begins = true; id = word words (j + 1) + mark * word words (j + 2); lits = map literal_of (take (word words j - mark) (drop (j + 3) words)) }

-- what begins at a place
abbrev pub slot_at : List ℕ → ℕ → Slot
slot_at words j = if nat_lt (word words j) mark then no_slot else marked_at words j

-- what begins at each place
abbrev pub slots_of : List ℕ → List Slot
slots_of words = map (slot_at words) (range_with_len 0 (length words))

-- each clause lies within the list, none begins in another, and its literals are codes
pub record AreClauses (words : List ℕ) : Type 0 where
  pub within : (j : ℕ) → mark ≤ word words j → end_of words j ≤ length words
  pub clear : (j k : ℕ) → mark ≤ word words j → j < k → k < end_of words j → word words k < mark
  pub codes : (j k : ℕ) → mark ≤ word words j → j + 3 ≤ k → k < end_of words j → 1 < word words k
