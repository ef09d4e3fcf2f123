-- Heaps of variables: all variables in one list, the first of which are the heap.
use Rattle.std.specs.Prelude.{◌≡◌, ◌≢◌, ◌⊎◌, ℕ, ◌+◌, ◌-◌, ◌/◌, ◌^◌, ◌<◌, ◌≤◌, Bool, List, length, All, ◌++◌, replicate, slice_index_or, slice_set, swap}
use Rattle.cdcl_state.specs.Order.{limit}

-- activities by variable from 1 on; the variables, of which the first `count` wait; and for how many there is memory
pub record HeapValue : Type 0 where
  pub activities : List ℕ
  pub vars : List ℕ
  pub count : ℕ
  pub room : ℕ

-- for how many variables there is room at most
abbrev pub most_vars : ℕ
most_vars = 2 ^ 32 - 1

-- each variable up to n has one place, and the table of places tells it
pub record ArePlaces (n : ℕ) (vars places : List ℕ) (count : ℕ) : Type 0 where
  pub room : length vars ≡ n
  pub small : n < 2 ^ 32
  pub placed : length places ≡ n
  pub counted : count ≤ n
  pub below : (var : ℕ) → 0 < var → var ≤ n → slice_index_or places (var - 1) 0 < n
  pub there : (var : ℕ) → 0 < var → var ≤ n → slice_index_or vars (slice_index_or places (var - 1) 0) 0 ≡ var
  pub positive : (k : ℕ) → k < n → 0 < slice_index_or vars k 0
  pub within : (k : ℕ) → k < n → slice_index_or vars k 0 ≤ n
  pub found : (k : ℕ) → k < n → slice_index_or places (slice_index_or vars k 0 - 1) 0 ≡ k

-- the activity of the variable at a place
abbrev pub key : HeapValue → ℕ → ℕ
key h k = slice_index_or h.activities (slice_index_or h.vars k 0 - 1) 0

-- the variable waits
abbrev pub Waits : HeapValue → ℕ → Type 0
Waits h var = (k : ℕ) × (k < h.count) × (slice_index_or h.vars k 0 ≡ var)

abbrev pub parent : ℕ → ℕ
parent k = (k - 1) / 2

-- no place of the first `count` has more than its parent
pub record IsOrdered (f : ℕ → ℕ) (count : ℕ) : Type 0 where
  pub below : (k : ℕ) → 0 < k → k < count → f k ≤ f (parent k)

-- the same, but for the place `at`, which may have more than its parent
pub record IsOrderedButAbove (f : ℕ → ℕ) (count at : ℕ) : Type 0 where
  pub others : (k : ℕ) → 0 < k → k < count → k ≢ at → f k ≤ f (parent k)
  pub across : (k : ℕ) → 0 < k → k < count → parent k ≡ at → 0 < at → f k ≤ f (parent at)

-- the same, but for the place `at`, which may have less than its children
pub record IsOrderedButBelow (f : ℕ → ℕ) (count at : ℕ) : Type 0 where
  pub others : (k : ℕ) → 0 < k → k < count → parent k ≢ at → f k ≤ f (parent k)
  pub across : (k : ℕ) → 0 < k → k < count → parent k ≡ at → 0 < at → f k ≤ f (parent at)

-- the place above `at`, which has less
pub record IsLesserParent (f : ℕ → ℕ) (at above : ℕ) : Type 0 where
  pub is : above ≡ parent at
  pub positive : 0 < at
  pub less : f above < f at

-- the place below `at` that has more, and no less than the other one below it
pub record IsGreaterChild (f : ℕ → ℕ) (count at child : ℕ) : Type 0 where
  pub is : parent child ≡ at
  pub positive : 0 < child
  pub within : child < count
  pub more : f at < f child
  pub most : (k : ℕ) → 0 < k → k < count → parent k ≡ at → f k ≤ f child

-- no place below `at` has more
abbrev pub IsAboveChildren : (ℕ → ℕ) → ℕ → ℕ → Type 0
IsAboveChildren f count at = (k : ℕ) → 0 < k → k < count → parent k ≡ at → f k ≤ f at

-- the variables at two places exchanged
abbrev pub swapped : HeapValue → ℕ → ℕ → HeapValue
swapped h i j = record { activities = h.activities; vars = swap h.vars i j; count = h.count; room = h.room }

-- so many of them wait
abbrev pub with_count : HeapValue → ℕ → HeapValue
with_count h count = record { activities = h.activities; vars = h.vars; count = count; room = h.room }

-- there is memory for so many of them
abbrev pub with_room : HeapValue → ℕ → HeapValue
with_room h room = record { activities = h.activities; vars = h.vars; count = h.count; room = room }

-- the same variables wait
pub record SameHeap (old new : HeapValue) : Type 0 where
  pub activities : new.activities ≡ old.activities
  pub count : new.count ≡ old.count
  pub kept : (var : ℕ) → Waits old var → Waits new var
  pub only : (var : ℕ) → Waits new var → Waits old var

-- this variable waits too
pub record IsAdded (old new : HeapValue) (var : ℕ) : Type 0 where
  pub activities : new.activities ≡ old.activities
  pub here : Waits new var
  pub kept : (other : ℕ) → Waits old other → Waits new other
  pub only : (other : ℕ) → Waits new other → Waits old other ⊎ (other ≡ var)

-- a variable of greatest activity that waited and now doesn't
pub record IsTaken (old new : HeapValue) (var : ℕ) : Type 0 where
  pub activities : new.activities ≡ old.activities
  pub count : new.count + 1 ≡ old.count
  pub positive : 0 < var
  pub within : var ≤ length old.activities
  pub greatest : (other : ℕ) → Waits old other → slice_index_or old.activities (other - 1) 0 ≤ slice_index_or old.activities (var - 1) 0
  pub kept : (other : ℕ) → Waits old other → other ≢ var → Waits new other
  pub only : (other : ℕ) → Waits new other → Waits old other

-- what an order keeps of its heap, its phases and its step
pub record IsOrder (heap : HeapValue) (phases : List Bool) (step : ℕ) : Type 0 where
  pub phased : length phases ≡ length heap.activities
  pub below : All (λ a. a < limit) heap.activities
  pub positive : 0 < step
  pub small : step < limit
  pub room : heap.count ≤ length heap.vars
  pub ordered : IsOrdered (key heap) heap.count

-- the variable has this activity, and the same variables wait
pub record IsRaised (old new : HeapValue) (var sum : ℕ) : Type 0 where
  pub activities : new.activities ≡ slice_set old.activities (var - 1) sum
  pub kept : (other : ℕ) → Waits old other → Waits new other
  pub only : (other : ℕ) → Waits new other → Waits old other

-- each new number is its place plus the shift
pub record CountsOn (old new : List ℕ) (shift more : ℕ) : Type 0 where
  pub long : length new ≡ length old + more
  pub kept : (k : ℕ) → k < length old → slice_index_or new k 0 ≡ slice_index_or old k 0
  pub fresh : (k : ℕ) → length old ≤ k → k < length new → slice_index_or new k 0 ≡ k + shift

-- so many more variables of activity 0, the same wait, and the heap stays in order
pub record IsExtended (old new : HeapValue) (more : ℕ) : Type 0 where
  pub activities : new.activities ≡ old.activities ++ replicate more 0
  pub ordered : IsOrdered (key old) old.count → IsOrdered (key new) new.count
  pub kept : (var : ℕ) → Waits old var → Waits new var
  pub only : (var : ℕ) → Waits new var → Waits old var

-- the variables after `known` up to `end` wait too
pub record IsWaitingFrom (old new : HeapValue) (known end : ℕ) : Type 0 where
  pub activities : new.activities ≡ old.activities
  pub kept : (var : ℕ) → Waits old var → Waits new var
  pub fresh : (var : ℕ) → known < var → var ≤ end → Waits new var
  pub only : (var : ℕ) → Waits new var → Waits old var ⊎ ((known < var) × (var ≤ end))

-- further variables up to `vars` of activity 0 wait
pub record IsGrownHeap (old new : HeapValue) (vars : ℕ) : Type 0 where
  pub activities : new.activities ≡ old.activities ++ replicate (vars - length old.activities) 0
  pub kept : (var : ℕ) → Waits old var → Waits new var
  pub fresh : (var : ℕ) → length old.activities < var → var ≤ vars → Waits new var
  pub only : (var : ℕ) → Waits new var → Waits old var ⊎ ((length old.activities < var) × (var ≤ vars))
