-- Partial assignments that know which variables are set.
use Rattle.std.specs.Prelude.{◌≡◌, ◌⊎◌, ℕ, ◌<◌, ◌≤◌, Bool, List, length, slice_index, slice_index_or, Option, None, count_by}
use Rattle.std.specs.Option.{is_some}

-- The first n numbers are the places of the set values; there is room for as many as there are values.
pub record IsTracked (values : List (Option Bool)) (places : List ℕ) (n : ℕ) : Type 0 where
  pub room : length values ≤ length places
  pub count : n ≡ count_by is_some values
  pub within : (j : ℕ) → j < n → slice_index places j < length values
  pub listed : (k : ℕ) → k < length values → (slice_index_or values k None ≡ None) ⊎ ((j : ℕ) × (j < n) × (slice_index places j ≡ k))
