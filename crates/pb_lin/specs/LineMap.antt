-- Constraints by their ids.
use Rattle.std.specs.Prelude.{◌≡◌, ℕ, ◌<◌, List, Option, Some, None, IsSome}
use Rattle.std.specs.Ordering.{nat_cmp}
use Rattle.std.specs.FinMap.{FinMap, from_entries, get}
use Rattle.pb_lin.specs.Constraint.{ConstraintValue, UpTo}

-- a finite map from ids to constraints
abbrev pub LineMap : Type 0
LineMap = FinMap {K = ℕ} nat_cmp ConstraintValue

-- no variable of a line is above n
abbrev pub LinesUpTo : ℕ → LineMap → Type 0
LinesUpTo n lines = (id : ℕ) (c : ConstraintValue) → get lines id ≡ Some c → UpTo n c

-- nothing is held above `id`
abbrev pub NoneAbove : {X : Type 0} → (ℕ → Option X) → ℕ → Type 0
NoneAbove held id = (k : ℕ) → id < k → held k ≡ None

-- the least id above `id` at which something is held
pub record IsNextAbove {X : Type 0} (held : ℕ → Option X) (id next : ℕ) : Type 0 where
  pub above : id < next
  pub live : IsSome (held next)
  pub least : (k : ℕ) → id < k → k < next → held k ≡ None

-- the map of a list of entries
unfoldable pub lines_of : List (ℕ × ConstraintValue) → LineMap
lines_of entries = from_entries entries
