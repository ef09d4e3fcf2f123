-- Counts of faults, for each kind of call and each name.
use Rattle.std.specs.Prelude.{ℕ, ◌+◌, ◌-◌, ◌≤◌, ◌^◌, ◌⊎◌, min, List, [], Option, Some, None, Result, IsErrOf}
use Rattle.std.specs.declared.cmp.Ordering.{Ordering}
use Rattle.std.specs.Ordering.{nat_cmp, ordering_then}
use Rattle.std.specs.Cmp.Lexicographic.{slice_cmp}
use Rattle.std.specs.FinMap.{FinMap, get, empty}
use Rattle.scut_base.specs.declared.shelf.ShelfCall.{ShelfCall}
use Rattle.scut_base.specs.declared.shelf.ShelfCall.TheVariants.{Read, Begin, Append, Say, Warn}
use Rattle.scut_base.specs.declared.shelf.ShelfFault.{ShelfFault}
use Rattle.scut_base.specs.declared.shelf.ShelfFault.TheVariants.{Failed}

abbrev pub call_number : ShelfCall → ℕ
call_number Read = 0
call_number Begin = 1
call_number Append = 2
call_number Say = 3
call_number Warn = 4

abbrev pub pair_cmp : ShelfCall × List ℕ → ShelfCall × List ℕ → Ordering
pair_cmp a b = ordering_then (nat_cmp (call_number a.0) (call_number b.0)) (slice_cmp nat_cmp a.1 b.1)

-- the counts of some pairs, and that of all others
pub record Faults : Type 0 where
  pub listed : FinMap pair_cmp ℕ
  pub others : ℕ

abbrev pub or_else : Option ℕ → ℕ → ℕ
or_else None n = n
or_else (Some m) n = m

unfoldable pub count : Faults → ShelfCall → List ℕ → ℕ
count f call name = or_else (get f.listed (call, name)) f.others

-- one more, up to the end of a u64
abbrev pub one_more : ℕ → ℕ
one_more n = min (n + 1) (2 ^ 64 - 1)

-- The count rose, or is at its end.
abbrev pub Rose : ℕ → ℕ → Type 0
Rose before now = one_more before ≤ now

-- no count has fallen
abbrev pub NoneFell : Faults → Faults → Type 0
NoneFell before now = (call : ShelfCall) (name : List ℕ) → count before call name ≤ count now call name

-- no count has fallen, and where the call failed its own rose
pub record HasCause {T : Type 0} (call : ShelfCall) (name : List ℕ) (before now : Faults) (result : Result T ShelfFault) : Type 0 where
  pub later : NoneFell before now
  pub failed : IsErrOf result Failed → Rose (count before call name) (count now call name)

-- a count of the calls that read this file rose
abbrev pub ReadingFailed : Faults → Faults → List ℕ → Type 0
ReadingFailed before now name = Rose (count before Read name) (count now Read name)

-- a count of the calls that write this file rose
abbrev pub WritingFailed : Faults → Faults → List ℕ → Type 0
WritingFailed before now name = Rose (count before Begin name) (count now Begin name) ⊎ Rose (count before Append name) (count now Append name)

-- the count of the calls that say something rose
abbrev pub SayingFailed : Faults → Faults → Type 0
SayingFailed before now = Rose (count before Say []) (count now Say [])

-- the count of the calls that warn of something rose
abbrev pub WarningFailed : Faults → Faults → Type 0
WarningFailed before now = Rose (count before Warn []) (count now Warn [])

-- every pair has this count
unfoldable pub plain : ℕ → Faults
plain n = record { listed = empty; others = n }
