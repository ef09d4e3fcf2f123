-- Searches that take turns.
use Rattle.std.specs.Prelude.{◌≡◌, ◌≢◌, ℕ, ◌+◌, ◌%◌, ◌<◌, ◌≤◌, List, length, All, slice_index, Option, None, Some, IfSome}
use Rattle.pb_lin.specs.Problem.{ProblemValue}

-- two or three searches, whose turns go by a list of their numbers, and the place in it of the turn that is next
pub record CycleValue (A B C : Type 0) : Type 0 where
  pub first : A
  pub second : B
  pub third : Option C
  pub turns : List ℕ
  pub place : ℕ

-- how many searches there are
abbrev pub search_count : {C : Type 0} → Option C → ℕ
search_count (Some third) = 3
search_count None = 2

-- at least one turn, and each that of one of so many searches
pub record AreTurns (count : ℕ) (turns : List ℕ) : Type 0 where
  pub some : 0 < length turns
  pub each : All (λ n. (0 < n) × (n ≤ count)) turns

-- a place in the list of turns
pub record IsPlace (count : ℕ) (turns : List ℕ) (place : ℕ) : Type 0 where
  pub within : place < length turns
  pub there : AreTurns count turns

-- the number of the search whose turn is next
abbrev pub next_of : {A B C : Type 0} → CycleValue A B C → ℕ
next_of c = slice_index c.turns c.place

-- The search whose turn is next has had its turn, since the others are as they were. The next turn is the one after it
-- in the list, and after the last the first.
pub record GivesTurn {A B C : Type 0} (old new : CycleValue A B C) : Type 0 where
  pub first : next_of old ≢ 1 → new.first ≡ old.first
  pub second : next_of old ≢ 2 → new.second ≡ old.second
  pub third : next_of old ≢ 3 → new.third ≡ old.third
  pub turns : new.turns ≡ old.turns
  pub place : new.place ≡ (old.place + 1) % length old.turns

-- the number of a search that may be there
abbrev pub third_number : {C : Type 0} → (C → ℕ) → Option C → ℕ
third_number number (Some search) = number search
third_number number None = 0

-- the searches' own numbers together
abbrev pub own_number : {A B C : Type 0} → (A → ℕ) → (B → ℕ) → (C → ℕ) → CycleValue A B C → ℕ
own_number first second third c = first c.first + (second c.second + third_number third c.third)

-- each search was made for this problem
pub record ServeAll {A B C : Type 0} (one : A → ProblemValue → Type 0) (two : B → ProblemValue → Type 0)
    (three : C → ProblemValue → Type 0) (c : CycleValue A B C) (p : ProblemValue) : Type 0 where
  pub first : one c.first p
  pub second : two c.second p
  pub third : IfSome c.third (λ search. three search p)
