-- The index from variables to rows, and the rows that it finds for a substitution; nothing of it has to be believed.
use Rattle.std.specs.Prelude.{◌≡◌, ℕ, ◌+◌, ◌<◌, ◌≤◌, true, Some, List, length, slice_index_or, All, AllPairs, Contains}
use Rattle.std.specs.List.Sorted.{IsNonDecreasingBy}
use Rattle.std.specs.FinMap.{get}
use Rattle.scut_base.specs.Literal.{Literal}
use Rattle.pb_lin.specs.Constraint.{ConstraintValue, literals}
use Rattle.pb_lin.specs.Substitution.{Images, touches}
use Rattle.proof_laws.specs.State.{StateValue}

-- variables with the places of rows, counted from 0
abbrev pub RowEntries : Type 0
RowEntries = List (ℕ × ℕ)

-- the variables don't fall
abbrev pub AreInOrder : RowEntries → Type 0
AreInOrder entries = IsNonDecreasingBy (λ e. e.0) entries

-- the variable of each literal is entered with the place
abbrev pub AreEntered : RowEntries → ℕ → List Literal → Type 0
AreEntered entries place lits = All (λ l. Contains entries (l.var, place)) lits

-- Of each line that lives under one of the first ids all variables are entered. These ids are given out, and so no other line comes to live under one.
pub record IsIndex (count : ℕ) (entries : RowEntries) (s : StateValue) : Type 0 where
  pub in_order : AreInOrder entries
  pub given_out : count < s.next_id
  pub entered : (k : ℕ) (c : ConstraintValue) → k < count → get s.live (k + 1) ≡ Some c → AreEntered entries k (literals c.terms)

-- Of each of the first rows all variables are entered. It is an index of each state that these rows' problem fits.
pub record IsRowIndex (count : ℕ) (entries : RowEntries) (rows : List ConstraintValue) : Type 0 where
  pub in_order : AreInOrder entries
  pub within : count ≤ length rows
  pub entered : (k : ℕ) (d : ConstraintValue) → k < count → AreEntered entries k (literals (slice_index_or rows k d).terms)

-- the places rise, and the rows that the substitution touches are among theirs
pub record HaveTouched (w : Images) (rows : List ConstraintValue) (places : List ℕ) : Type 0 where
  pub rising : AllPairs (λ i j. i < j) places
  pub within : All (λ k. k < length rows) places
  pub all : (k : ℕ) (d : ConstraintValue) → k < length rows → touches w (slice_index_or rows k d) ≡ true → Contains places k
