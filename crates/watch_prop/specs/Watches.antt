-- When the watched clauses are in step with a store and a trail, and what a visit of one entry does.
use Rattle.std.specs.Prelude.{◌≡◌, ◌≢◌, ℕ, ◌+◌, ◌<◌, ◌≤◌, true, List, [], get_or, length, slice_index_or, Contains, Some, IsPermutation}
use Rattle.std.specs.FinMap.{get}
use Rattle.scut_base.specs.Literal.{Literal}
use Rattle.pb_lin.specs.Constraint.{ConstraintValue, IsMerged, literals, opposite}
use Rattle.pb_lin.specs.LineMap.{LineMap}
use Rattle.clause_prop.specs.Steps.{TrailValue, AreSteps}
use Rattle.clause_prop.specs.Propagating.{Extends, IsConflict}
use Rattle.clause_prop.specs.LineKinds.{is_watched}
use Rattle.watch_prop.specs.Watching.{IsKept, IsLooking, IsPut, clause_at, lits_of, list_of, no_literal, no_slot}
use Rattle.watch_prop.specs.Slot.{Slot}
use Rattle.watch_prop.specs.SlotTable.{slot_in}
use Rattle.watch_prop.specs.declared.watches.Watches.{Watches}
use Rattle.watch_prop.specs.declared.watches.Visit.{Visit}
use Rattle.watch_prop.specs.declared.watches.Visit.TheVariants.{Next, Gone, Conflict}

-- the literals are those of the line of the id, in some order, and the id leads to slot j
pub record IsStored (lits : List Literal) (index : List ℕ) (lines : LineMap) (j : ℕ) (id : ℕ) : Type 0 where
  pub line : ConstraintValue
  pub there : get lines id ≡ Some line
  pub kind : is_watched line ≡ true
  pub merged : IsMerged line.terms
  pub same : IsPermutation (literals line.terms) lits
  pub found : slot_in index id ≡ Some j

-- the slot that has a line
pub record IsHeld (own : List Slot) (id : ℕ) : Type 0 where
  pub slot : ℕ
  pub is : (get_or own slot no_slot).id ≡ id
  pub long : 2 ≤ length (clause_at own slot)

-- the slots with two literals or more are the clauses that are watched
pub record AreSlots (own : List Slot) (index : List ℕ) (lines : LineMap) : Type 0 where
  pub stored : (j : ℕ) → 2 ≤ length (clause_at own j) → IsStored (clause_at own j) index lines j (get_or own j no_slot).id
  pub held : (id : ℕ) (c : ConstraintValue) → get lines id ≡ Some c → is_watched c ≡ true → IsHeld own id

abbrev pub Hold : Watches → LineMap → Type 0
Hold w lines = AreSlots w.slots w.index lines

-- the watches are right for the looked-at steps
abbrev pub IsReady : Watches → TrailValue → Type 0
IsReady w t = IsKept w.slots w.lists.items w.ends.items t.vars (lits_of t.steps)

-- the list of a literal is gone through, and this place is next
abbrev pub IsAt : Watches → TrailValue → Literal → ℕ → Type 0
IsAt w t lit at = IsLooking w.slots w.lists.items w.ends.items t.vars (lits_of t.steps) lit at

-- the number of entries in the list of a literal
abbrev pub entries_of : Watches → Literal → ℕ
entries_of w lit = length (list_of w.lists.items lit)

-- the same clauses are held, and the trail is longer by what they force
pub record IsFollowed (before after : Watches) (old new : TrailValue) : Type 0 where
  pub vars : new.vars ≡ old.vars
  pub hold : (lines : LineMap) → Hold before lines → Hold after lines
  pub extends : (lines : LineMap) → Hold before lines → Extends lines old new

-- all steps were looked at
abbrev pub IsAllLooked : Watches → TrailValue → Type 0
IsAllLooked w t = (length w.ends.items ≡ length t.steps) × AreSteps t.vars t.steps

-- the clause of this id is all false
abbrev pub IsConflictOf : Watches → TrailValue → ℕ → Type 0
IsConflictOf w t id = (lines : LineMap) → Hold w lines → IsConflict lines t id

-- the place that is next after a visit
abbrev pub place_after : Visit → ℕ → ℕ
place_after Next at = at + 1
place_after Gone at = at
place_after (Conflict id) at = at

-- the number of entries before a visit, from that after it
abbrev pub entries_before : Visit → ℕ → ℕ
entries_before Next n = n
entries_before Gone n = n + 1
entries_before (Conflict id) n = n

-- the clause of a conflict is all false
abbrev pub IsRightly : Visit → Watches → TrailValue → Type 0
IsRightly Next w t = Unit {0}
IsRightly Gone w t = Unit {0}
IsRightly (Conflict id) w t = IsConflictOf w t id

-- what a visit does to the watches and to the trail
pub record IsVisited (before after : Watches) (old new : TrailValue) (lit : Literal) (at : ℕ) (visit : Visit) : Type 0 where
  pub looking : IsAt after new lit (place_after visit at)
  pub left : entries_of before lit ≡ entries_before visit (entries_of after lit)
  pub ends : after.ends.items ≡ before.ends.items
  pub followed : IsFollowed before after old new
  pub rightly : IsRightly visit after new

-- A clause may be watched: its first two literals aren't false by a looked-at step.
pub record IsWatchable (w : Watches) (t : TrailValue) (lits : List Literal) : Type 0 where
  pub upto : (l : Literal) → Contains lits l → l.var ≤ t.vars
  pub clear : (k p : ℕ) → k < 2 → p < length w.ends.items → slice_index_or (lits_of t.steps) p no_literal ≢ opposite (slice_index_or lits k no_literal)

-- the literals are those of a clause that is stored under this id
pub record IsCopy (lines : LineMap) (id : ℕ) (line : ConstraintValue) (lits : List Literal) : Type 0 where
  pub there : get lines id ≡ Some line
  pub kind : is_watched line ≡ true
  pub merged : IsMerged line.terms
  pub same : IsPermutation (literals line.terms) lits

-- a clause of this id without literals is put at the end
pub record IsOpened (before after : Watches) (id slot : ℕ) : Type 0 where
  pub fresh : slice_index_or before.slots slot no_slot ≡ no_slot
  pub put : IsPut before.slots after.slots slot (record { begins = true; id = id; lits = [] })
  pub last : slot + 3 ≡ length after.slots
  pub found : slot_in after.index id ≡ Some slot

-- Of the lines that others hold, those are held that begin in them before a place.
pub record AreTaken (own others : Watches) (lines : LineMap) (place : ℕ) : Type 0 where
  pub part : LineMap
  pub hold : Hold own part
  pub from : (id : ℕ) (c : ConstraintValue) → get part id ≡ Some c → (get lines id ≡ Some c) × ((j : ℕ) × (j < place) × (slot_in others.index id ≡ Some j))
  pub all : (id j : ℕ) (c : ConstraintValue) → get lines id ≡ Some c → is_watched c ≡ true → slot_in others.index id ≡ Some j → j < place → get part id ≡ Some c

-- both have the same clauses that are watched
pub record AreSameWatched (old new : LineMap) : Type 0 where
  pub stays : (id : ℕ) (c : ConstraintValue) → is_watched c ≡ true → get old id ≡ Some c → get new id ≡ Some c
  pub was : (id : ℕ) (c : ConstraintValue) → is_watched c ≡ true → get new id ≡ Some c → get old id ≡ Some c

-- the watches are in step with these lines and this trail
unfoldable pub AreWatches : Watches → LineMap → TrailValue → Type 0
AreWatches w lines t = IsReady w t × Hold w lines
