-- A box more, and the parts of a box.
use Rattle.std.specs.Prelude.{ℕ, ◌<◌, ◌⊎◌, not, List, Option, slice_index_or, ℤ, pos, ◌<ℤ◌}
use Rattle.std.specs.List.{filter, position_from}
use Rattle.front_set.specs.Vector.{is_below, IsBelow}
use Rattle.relaxations.specs.Boxes.{AreOfWord, IsOpen}

-- the place of the first box that this one is within
abbrev pub first_around : List (List ℤ) → List ℤ → Option ℕ
first_around boxes limits = position_from (λ other. is_below limits other) 0 boxes

-- the boxes that aren't within this one
abbrev pub not_within : List ℤ → List (List ℤ) → List (List ℤ)
not_within limits boxes = filter (λ other. not (is_below other limits)) boxes

-- the vectors within the new boxes are those within the old ones or within this one
pub record AddsBox (old new : List (List ℤ)) (limits : List ℤ) : Type 0 where
  pub only : (v : List ℤ) → IsOpen new v → IsOpen old v ⊎ IsBelow v limits
  pub stays : (v : List ℤ) → IsOpen old v → IsOpen new v
  pub added : (v : List ℤ) → IsBelow v limits → IsOpen new v

-- one of the first n numbers is less than at these costs
abbrev pub IsLessBefore : ℕ → List ℤ → List ℤ → Type 0
IsLessBefore n v costs = (i : ℕ) × (i < n) × (slice_index_or v i (pos 0) <ℤ slice_index_or costs i (pos 0))

-- the parts of a box were added in which one of the first n numbers is less than at these costs
pub record AddsParts (old new : List (List ℤ)) (limits costs : List ℤ) (n : ℕ) : Type 0 where
  pub only : (v : List ℤ) → IsOpen new v → IsOpen old v ⊎ (IsBelow v limits × IsLessBefore n v costs)
  pub stays : (v : List ℤ) → IsOpen old v → IsOpen new v
  pub added : (v : List ℤ) → AreOfWord v → IsBelow v limits → IsLessBefore n v costs → IsOpen new v
