-- Boxes of cost vectors, given by their limits.
use Rattle.std.specs.Prelude.{◌^◌, List, ℤ, pos, ◌-ℤ◌, ◌≤ℤ◌, All, Contains}
use Rattle.front_set.specs.Vector.{IsBelow}

-- the vector is within a box of the list
abbrev pub IsOpen : List (List ℤ) → List ℤ → Type 0
IsOpen boxes costs = (limits : List ℤ) × Contains boxes limits × IsBelow costs limits

-- each number is at least the least of 64 bits
abbrev pub AreOfWord : List ℤ → Type 0
AreOfWord costs = All (λ c. (pos 0 -ℤ pos (2 ^ 63)) ≤ℤ c) costs

-- the vectors within the new boxes are those within the old ones that this vector isn't below
pub record Excludes (old new : List (List ℤ)) (costs : List ℤ) : Type 0 where
  pub only : (v : List ℤ) → IsOpen new v → IsOpen old v × (IsBelow costs v → ⊥)
  pub all : (v : List ℤ) → AreOfWord v → IsOpen old v → (IsBelow costs v → ⊥) → IsOpen new v
