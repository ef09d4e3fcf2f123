-- The minimal pairs of a list of pairs of a vector and an assignment.
use Rattle.std.specs.Prelude.{◌≡◌, ◌≢◌, ◌↔◌, ℕ, not, List, [], ◌∷◌, ◌++◌, map, ℤ, All, Contains, Option, None, Some}
use Rattle.std.specs.List.{filter, AllPairs, position_from, count_by}
use Rattle.front_set.specs.Vector.{is_below, IsBelow, IsStrictlyBelow}
use Rattle.front_set.specs.declared.entry.Entry.{Entry}
use Rattle.front_set.specs.declared.set.Inserted.{Inserted}
use Rattle.front_set.specs.declared.set.Inserted.TheVariants.{Covered, Added}

-- the vectors of the entries, in order
abbrev pub vectors_of : List Entry → List (List ℤ)
vectors_of entries = map (λ e. e.costs) entries

-- no entry's vector is below that of another
abbrev pub AreIncomparable : List Entry → Type 0
AreIncomparable entries = AllPairs (λ e f. (IsBelow e.costs f.costs → ⊥) × (IsBelow f.costs e.costs → ⊥)) entries

-- no two entries have one vector
abbrev pub AreDistinct : List Entry → Type 0
AreDistinct entries = AllPairs (λ e f. e.costs ≢ f.costs) entries

-- v is the vector of a pair, and that of no pair is strictly below it
pub record IsMinimalOf (pairs : List Entry) (v : List ℤ) : Type 0 where
  pub among : Contains (vectors_of pairs) v
  pub least : (u : List ℤ) → Contains (vectors_of pairs) u → IsStrictlyBelow u v → ⊥

-- The entries stand for all these pairs: their vectors are the minimal ones of the pairs, each once, and each entry is one of the pairs.
pub record StandsFor (entries pairs : List Entry) : Type 0 where
  pub minimal : (v : List ℤ) → Contains (vectors_of entries) v ↔ IsMinimalOf pairs v
  pub once : AreIncomparable entries
  pub inserted : All (Contains pairs) entries

-- the place of the first entry whose vector is below this one
abbrev pub first_below : List Entry → List ℤ → Option ℕ
first_below entries v = position_from (λ e. is_below e.costs v) 0 entries

-- the entries whose vector this one isn't below
abbrev pub not_above : List ℤ → List Entry → List Entry
not_above v entries = filter (λ e. not (is_below v e.costs)) entries

-- how many entries this vector is below
abbrev pub count_above : List ℤ → List Entry → ℕ
count_above v entries = count_by (λ e. is_below v e.costs) entries

-- What an insertion answers and leaves: the first entry below the pair's vector, and nothing changed; or, where there is none, the pair instead of the entries that its vector is below.
abbrev pub IsInserted : List Entry → List Entry → Entry → Inserted → Type 0
IsInserted old new p (Covered by) = (first_below old p.costs ≡ Some by) × (new ≡ old)
IsInserted old new p (Added removed) = (first_below old p.costs ≡ None) × (new ≡ not_above p.costs old ++ p ∷ []) × (removed ≡ count_above p.costs old)
