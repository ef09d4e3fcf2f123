-- How what is kept of the counted lines agrees with a store and a trail.
use Rattle.std.specs.Prelude.{◌≡◌, ℕ, ◌+◌, ◌-◌, ◌<◌, ◌≤◌, ◌⊎◌, Bool, true, false, if◌then◌else◌, nat_eq, Option, Some, List, [], ◌∷◌, length, take, sum_by, slice_index_or, All}
use Rattle.std.specs.Option.{is_none}
use Rattle.std.specs.FinMap.{get}
use Rattle.scut_base.specs.Literal.{Literal}
use Rattle.scut_base.specs.LiteralCode.{code_of}
use Rattle.scut_base.specs.Assignment.{partial_truth}
use Rattle.pb_lin.specs.Constraint.{ConstraintValue, IsNormal, UpTo, possible_value}
use Rattle.pb_lin.specs.LineMap.{LineMap}
use Rattle.clause_prop.specs.Steps.{TrailValue, assigned, partial}
use Rattle.clause_prop.specs.LineKinds.{is_watched}
use Rattle.clause_prop.specs.declared.step.Step.{Step}
use Rattle.watch_prop.specs.declared.counter_lines.CounterLine.{CounterLine}
use Rattle.watch_prop.specs.declared.counter_lines.Occurrence.{Occurrence}
use Rattle.watch_prop.specs.declared.counter_lines.Fresh.{Fresh}
use Rattle.watch_prop.specs.declared.occurrence_lists.CodeList.{CodeList}
use Rattle.watch_prop.specs.declared.occurrence_lists.OccurrenceLists.{OccurrenceLists}

-- what stands past the ends of the lists
abbrev pub no_line : CounterLine
no_line = record { id = 0; live = false; possible = 0; limit = 0 }

abbrev pub no_fresh : Fresh
no_fresh = record { slot = 0; end = 0 }

abbrev pub no_occurrence : Occurrence
no_occurrence = record { slot = 0; coefficient = 0 }

abbrev pub line_at : List CounterLine → ℕ → CounterLine
line_at lines j = slice_index_or lines j no_line

abbrev pub fresh_at : List Fresh → ℕ → Fresh
fresh_at fresh k = slice_index_or fresh k no_fresh

-- what stands past the end of the lists
abbrev pub no_list : CodeList
no_list = record { code = 0; items = [] }

-- the list that is kept for a code, which counts where it is of this code
abbrev pub kept_for : OccurrenceLists → ℕ → CodeList
kept_for o code = slice_index_or o.lists.items (slice_index_or o.places.items code 0) no_list

-- the occurrences of a list for a code: none where it is of another one
abbrev pub items_for : CodeList → ℕ → List Occurrence
items_for l code = if nat_eq l.code code then l.items else []

abbrev pub list_at : OccurrenceLists → ℕ → List Occurrence
list_at o code = items_for (kept_for o code) code

-- the list of a code is at this place
pub record IsListOf (o : OccurrenceLists) (code place : ℕ) : Type 0 where
  pub there : place < length o.lists.items
  pub own : (slice_index_or o.lists.items place no_list).code ≡ code
  pub is : slice_index_or o.places.items code 0 ≡ place

-- the coefficient where the occurrence is of this slot, and else 0
abbrev pub share : ℕ → Occurrence → ℕ
share j e = if nat_eq e.slot j then e.coefficient else 0

-- the coefficients that a list has for a slot
abbrev pub listed : ℕ → List Occurrence → ℕ
listed j list = sum_by (share j) list

-- the coefficient where the term's literal has this code, and else 0
abbrev pub weight : ℕ → Literal × ℕ → ℕ
weight code t = if nat_eq (code_of t.0) code then t.1 else 0

-- the coefficients of the literal of this code
abbrev pub coefficient_at : List (Literal × ℕ) → ℕ → ℕ
coefficient_at terms code = sum_by (weight code) terms

-- each occurrence is of one of the first n slots
abbrev pub AreOfSlots : ℕ → List Occurrence → Type 0
AreOfSlots n list = All (λ e. e.slot < n) list

-- the line with a smaller sum, where it is live
abbrev pub lowered : CounterLine → ℕ → CounterLine
lowered line n = record { id = line.id; live = line.live; possible = line.possible - (if line.live then n else 0); limit = line.limit }

-- the line with a greater sum, where it is live
abbrev pub raised : CounterLine → ℕ → CounterLine
raised line n = record { id = line.id; live = line.live; possible = line.possible + (if line.live then n else 0); limit = line.limit }

-- the trail's length when the first q steps had been looked at
abbrev pub end_of : List ℕ → ℕ → ℕ
end_of ends q = slice_index_or (0 ∷ ends) q 0

-- the coefficients of the literals that the first steps don't make false
abbrev pub possible : ℕ → List Step → List (Literal × ℕ) → ℕ
possible n steps terms = sum_by (possible_value (assigned n steps)) terms

-- what is kept of a line: the coefficients of the literals that aren't false, and the degree and the greatest coefficient summed
pub record IsCounter (lists : OccurrenceLists) (n : ℕ) (steps : List Step) (j : ℕ) (kept : CounterLine) (c : ConstraintValue) : Type 0 where
  pub normal : IsNormal c.terms c.degree
  pub within : UpTo n c
  pub occurs : (code : ℕ) → listed j (list_at lists code) ≡ coefficient_at c.terms code
  pub sum : kept.possible ≡ possible n steps c.terms
  pub limit : All (λ t. t.1 + c.degree ≤ kept.limit) c.terms
  pub enough : c.degree ≤ kept.limit

-- each literal whose coefficient exceeds the slack at this sum has a value
abbrev pub AreTold : List (Option Bool) → ConstraintValue → ℕ → Type 0
AreTold p c sum = All (λ t. sum < t.1 + c.degree → is_none (partial_truth p t.0) ≡ false) c.terms

-- Under the first q steps the line isn't violated, and what it forces there has a value under the first e.
pub record IsSettled (n : ℕ) (steps : List Step) (c : ConstraintValue) (q e : ℕ) : Type 0 where
  pub meets : c.degree ≤ possible n (take q steps) c.terms
  pub told : AreTold (assigned n (take e steps)) c (possible n (take q steps) c.terms)

-- the slot is among the fresh ones, and its line wasn't gone through
pub record IsWaiting (fresh : List Fresh) (done j : ℕ) : Type 0 where
  pub place : ℕ
  pub short : place < length fresh
  pub is : (fresh_at fresh place).slot ≡ j
  pub late : done ≤ place

-- The line is settled for q steps, by the time when these had been looked at, or when it was gone through as a new one.
pub record IsDone (ends : List ℕ) (fresh : List Fresh) (done n : ℕ) (steps : List Step) (j : ℕ) (c : ConstraintValue) (q : ℕ) : Type 0 where
  pub by : ℕ
  pub settled : IsSettled n steps c q by
  pub reached : (by ≤ end_of ends q) ⊎ ((k : ℕ) × (k < done) × ((fresh_at fresh k).slot ≡ j) × (by ≤ (fresh_at fresh k).end))

-- the line of a live slot
pub record IsHeld (lists : OccurrenceLists) (counted : ℕ) (ends : List ℕ) (fresh : List Fresh) (done : ℕ) (store : LineMap) (t : TrailValue) (j : ℕ) (kept : CounterLine) : Type 0 where
  pub line : ConstraintValue
  pub there : get store kept.id ≡ Some line
  pub kind : is_watched line ≡ false
  pub counter : IsCounter lists t.vars (take counted t.steps) j kept line
  pub ready : (q : ℕ) → q ≤ length ends → IsWaiting fresh done j ⊎ IsDone ends fresh done t.vars t.steps j line q

-- The lines of slots, the lists of occurrences by codes of literals, the slots by ids, how many steps the sums count, the trail's length after each step that was looked at, and the slots of new lines, of which the first `done` were gone through.
pub record AreKept (lines : List CounterLine) (lists : OccurrenceLists) (slot_of : ℕ → Option ℕ) (counted : ℕ) (ends : List ℕ) (fresh : List Fresh) (done : ℕ) (store : LineMap) (t : TrailValue) : Type 0 where
  pub found : (id : ℕ) (c : ConstraintValue) → get store id ≡ Some c → is_watched c ≡ false → (j : ℕ) × (slot_of id ≡ Some j)
  pub slots : (id j : ℕ) → slot_of id ≡ Some j → (j < length lines) × ((line_at lines j).id ≡ id) × ((line_at lines j).live ≡ true)
  pub named : (j : ℕ) → (line_at lines j).live ≡ true → slot_of (line_at lines j).id ≡ Some j
  pub held : (j : ℕ) → (line_at lines j).live ≡ true → IsHeld lists counted ends fresh done store t j (line_at lines j)
  pub occurrences : (code : ℕ) → AreOfSlots (length lines) (list_at lists code)
  pub looked : length ends ≤ counted
  pub counts : counted ≤ length t.steps
  pub within : (p : ℕ) → p < length ends → (p < slice_index_or ends p 0) × (slice_index_or ends p 0 ≤ length t.steps)
  pub rising : (p q : ℕ) → p ≤ q → q < length ends → slice_index_or ends p 0 ≤ slice_index_or ends q 0
  pub begun : done ≤ length fresh
  pub of_slots : (k : ℕ) → k < length fresh → (fresh_at fresh k).slot < length lines
  pub late : (k : ℕ) → k < done → (fresh_at fresh k).end ≤ length t.steps
  pub later : (i k : ℕ) → i ≤ k → k < done → (fresh_at fresh i).end ≤ (fresh_at fresh k).end

-- where the kept line is of a stored one, its sum is at least what isn't false under the trail
abbrev pub IsOver : LineMap → TrailValue → CounterLine → Type 0
IsOver store t kept = kept.live ≡ true → (c : ConstraintValue) → get store kept.id ≡ Some c → possible t.vars t.steps c.terms ≤ kept.possible

-- where the kept line is of a stored one, it isn't violated at its sum, and what is forced there has a value
abbrev pub IsGone : LineMap → TrailValue → CounterLine → Type 0
IsGone store t kept =
    kept.live ≡ true → (c : ConstraintValue) → get store kept.id ≡ Some c → (kept.limit ≤ kept.possible) ⊎ ((c.degree ≤ kept.possible) × AreTold (partial t) c kept.possible)

-- a live line's sum is at least its limit
abbrev pub IsQuiet : CounterLine → Type 0
IsQuiet kept = kept.live ≡ true → kept.limit ≤ kept.possible

-- the lines of a list are quiet
abbrev pub AreQuiet : List CounterLine → List Occurrence → Type 0
AreQuiet lines list = All (λ e. IsQuiet (line_at lines e.slot)) list
