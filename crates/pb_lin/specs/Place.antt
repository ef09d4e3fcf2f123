-- Places in lists whose numbers rise; nothing of it has to be believed.
use Rattle.std.specs.Prelude.{ℕ, ◌<◌, ◌≤◌, List, length, slice_index_or}

-- All before i have numbers below the given one, and none from i on has.
pub record IsPlace {X : Type 0} (n : X → ℕ) (xs : List X) (number i : ℕ) : Type 0 where
  pub bound : i ≤ length xs
  pub below : (k : ℕ) (d : X) → k < i → n (slice_index_or xs k d) < number
  pub above : (k : ℕ) (d : X) → i ≤ k → k < length xs → number ≤ n (slice_index_or xs k d)
