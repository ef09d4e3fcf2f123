-- How watched clauses stand to a trail: plain lists.
use Rattle.std.specs.Prelude.{◌≡◌, ◌≢◌, ℕ, ◌+◌, ◌<◌, ◌≤◌, ◌⊎◌, Bool, true, false, List, [], length, map, take, slice_index, slice_index_or, Contains, Option, Some, None}
use Rattle.scut_base.specs.Literal.{Literal}
use Rattle.scut_base.specs.LiteralCode.{code_of}
use Rattle.pb_lin.specs.Constraint.{opposite}
use Rattle.clause_prop.specs.declared.step.Step.{Step}
use Rattle.watch_prop.specs.declared.watch_lists.Entry.{Entry}
use Rattle.watch_prop.specs.Slot.{Slot}

-- what stands past the end of a list of literals
abbrev pub no_literal : Literal
no_literal = record { var = 0; neg = false }

-- what stands past the end of a list of entries
abbrev pub no_entry : Entry
no_entry = record { slot = 0; blocker = no_literal }

-- what stands past the end of the slots
abbrev pub no_slot : Slot
no_slot = record { begins = false; id = 0; lits = [] }

-- a clause begins at place j
abbrev pub IsSlot : List Slot → ℕ → Type 0
IsSlot own j = (slice_index_or own j no_slot).begins ≡ true

-- this clause begins at place j, and at all others what began there
pub record IsPut (old new : List Slot) (j : ℕ) (s : Slot) : Type 0 where
  pub here : slice_index_or new j no_slot ≡ s
  pub others : (i : ℕ) → i ≢ j → slice_index_or new i no_slot ≡ slice_index_or old i no_slot

-- the literals that steps make true
abbrev pub lits_of : List Step → List Literal
lits_of steps = map (λ s. s.lit) steps

-- the literals of a slot
abbrev pub clause_at : List Slot → ℕ → List Literal
clause_at own j = (slice_index_or own j no_slot).lits

-- the clause of place j with other literals
abbrev pub with_lits : List Slot → ℕ → List Literal → Slot
with_lits own j lits = record { begins = true; id = (slice_index_or own j no_slot).id; lits = lits }

-- the list of a literal
abbrev pub list_of : List (List Entry) → Literal → List Entry
list_of lists l = slice_index_or lists (code_of l) []

-- the literals of a clause are distinct
abbrev pub IsDistinct : List Literal → Type 0
IsDistinct clause = (i k : ℕ) → i < length clause → k < length clause → i ≢ k → slice_index_or clause i no_literal ≢ slice_index_or clause k no_literal

-- the clause has a true literal
abbrev pub HasTrue : List Literal → List Literal → Type 0
HasTrue trail clause = (l : Literal) × Contains clause l × Contains trail l

-- the literal is one of the first two of at least two
abbrev pub IsWatch : List Literal → Literal → Type 0
IsWatch clause l = (2 ≤ length clause) × ((slice_index_or clause 0 no_literal ≡ l) ⊎ (slice_index_or clause 1 no_literal ≡ l))

-- from this place on some entry is of slot j
abbrev pub Names : List Entry → ℕ → ℕ → Type 0
Names entries from j = (k : ℕ) × (from ≤ k) × (k < length entries) × ((slice_index_or entries k no_entry).slot ≡ j)

-- the literal is the blocker of an entry, or the one whose list has this code
abbrev pub IsBeside : ℕ → Entry → Literal → Type 0
IsBeside c e l = (l ≡ e.blocker) ⊎ (code_of l ≡ c)

-- An entry is of a slot. Its blocker and the literal of its list are two literals of it, unless its clause was dropped.
pub record IsEntry (own : List Slot) (n c : ℕ) (e : Entry) : Type 0 where
  pub there : IsSlot own e.slot
  pub upto : e.blocker.var ≤ n
  pub other : code_of e.blocker ≢ c
  pub among : (l : Literal) → IsBeside c e l → 2 ≤ length (clause_at own e.slot) → Contains (clause_at own e.slot) l

-- How the slots' clauses, the lists of entries, and the ends stand to a trail over n variables. There is one end for each step that was looked at: the trail's length when that was done.
pub record IsKept (own : List Slot) (lists : List (List Entry)) (ends : List ℕ) (n : ℕ) (trail : List Literal) : Type 0 where
  pub distinct : (j : ℕ) → IsDistinct (clause_at own j)
  pub upto : (j : ℕ) (l : Literal) → Contains (clause_at own j) l → l.var ≤ n
  pub covered : (j : ℕ) (l : Literal) → Contains (clause_at own j) l → code_of l < length lists
  pub entries : (c k : ℕ) → k < length (slice_index_or lists c []) → IsEntry own n c (slice_index_or (slice_index_or lists c []) k no_entry)
  pub watched : (j : ℕ) (l : Literal) → IsWatch (clause_at own j) l → Names (list_of lists l) 0 j
  pub within : (p : ℕ) → p < length ends → (p < slice_index ends p) × (slice_index ends p ≤ length trail)
  pub rising : (p q : ℕ) → p ≤ q → q < length ends → slice_index ends p ≤ slice_index ends q
  pub settled : (j : ℕ) (l : Literal) (p : ℕ) → IsWatch (clause_at own j) l → p < length ends → slice_index_or trail p no_literal ≡ opposite l → HasTrue (take (slice_index ends p) trail) (clause_at own j)

-- While the list of a literal is gone through, whose falsity is the first step not looked at: each clause that watches it has its entry from this place on, or a true literal.
pub record IsLooking (own : List Slot) (lists : List (List Entry)) (ends : List ℕ) (n : ℕ) (trail : List Literal) (lit : Literal) (at : ℕ) : Type 0 where
  pub kept : IsKept own lists ends n trail
  pub more : length ends < length trail
  pub here : slice_index_or trail (length ends) no_literal ≡ opposite lit
  pub due : (j : ℕ) → IsWatch (clause_at own j) lit → Names (list_of lists lit) at j ⊎ HasTrue trail (clause_at own j)

-- one entry is gone, and the last one stands in its place
pub record IsRemoved (old new : List Entry) (at : ℕ) : Type 0 where
  pub len : length new + 1 ≡ length old
  pub moved : at < length new → slice_index_or new at no_entry ≡ slice_index_or old (length new) no_entry
  pub others : (k : ℕ) → k ≢ at → k < length new → slice_index_or new k no_entry ≡ slice_index_or old k no_entry

-- the literal at this place isn't watched, and isn't false
abbrev pub IsFree : List Literal → List Literal → ℕ → Type 0
IsFree clause trail k = (2 ≤ k) × (k < length clause) × (Contains trail (opposite (slice_index_or clause k no_literal)) → ⊥)

-- all literals of the clause from this place on are false
abbrev pub AreFalse : List Literal → List Literal → ℕ → Type 0
AreFalse clause trail from = (k : ℕ) → from ≤ k → k < length clause → Contains trail (opposite (slice_index_or clause k no_literal))

-- the literal is one of the clause, and all others of it are false
abbrev pub AreOthersFalse : List Literal → List Literal → Literal → Type 0
AreOthersFalse clause trail l = (k : ℕ) × (k < length clause) × (slice_index_or clause k no_literal ≡ l) × ((i : ℕ) → i ≢ k → i < length clause → Contains trail (opposite (slice_index_or clause i no_literal)))

-- what the answer says of a literal
abbrev pub IsValue : List Literal → Literal → Option Bool → Type 0
IsValue lits l None = (Contains lits l → ⊥) × (Contains lits (opposite l) → ⊥)
IsValue lits l (Some true) = Contains lits l × (Contains lits (opposite l) → ⊥)
IsValue lits l (Some false) = Contains lits (opposite l) × (Contains lits l → ⊥)
