-- Orders of variables by their activities.
use Rattle.std.specs.Prelude.{◌≡◌, ◌≢◌, ◌⊎◌, ℕ, ◌+◌, ◌-◌, ◌/◌, ◌^◌, ◌<◌, ◌≤◌, max, Bool, false, not, if◌then◌else◌, nat_le, List, ◌++◌, length, map, replicate, Contains, slice_index_or, slice_set, None}
use Rattle.scut_base.specs.Literal.{Literal}
use Rattle.scut_base.specs.Assignment.{partial_truth}
use Rattle.clause_prop.specs.Steps.{TrailValue, partial}

-- By variable from 1 on its activity and its last phase; the variables that wait to be decided; what a bump adds; and for how many variables there is memory.
pub record OrderValue : Type 0 where
  pub activities : List ℕ
  pub phases : List Bool
  pub waiting : List ℕ
  pub step : ℕ
  pub room : ℕ

abbrev pub activity : OrderValue → ℕ → ℕ
activity o var = slice_index_or o.activities (var - 1) 0

abbrev pub phase : OrderValue → ℕ → Bool
phase o var = slice_index_or o.phases (var - 1) false

-- the variable is open on the trail
abbrev pub IsOpenVar : TrailValue → ℕ → Type 0
IsOpenVar t var = partial_truth (partial t) (record { var = var; neg = false }) ≡ None

-- every variable that is open on the trail waits
abbrev pub AllOpenWait : OrderValue → TrailValue → Type 0
AllOpenWait o t = (var : ℕ) → 0 < var → var ≤ t.vars → IsOpenVar t var → Contains o.waiting var

-- every variable that is open on the trail waits, but for this one
abbrev pub OtherOpenWait : OrderValue → TrailValue → ℕ → Type 0
OtherOpenWait o t chosen = (var : ℕ) → 0 < var → var ≤ t.vars → IsOpenVar t var → var ≢ chosen → Contains o.waiting var

-- an open variable of the trail in its last phase, than which no other open one has a greater activity
pub record IsNextChoice (o : OrderValue) (t : TrailValue) (l : Literal) : Type 0 where
  pub positive : 0 < l.var
  pub within : l.var ≤ t.vars
  pub open_lit : partial_truth (partial t) l ≡ None
  pub last_phase : l.neg ≡ not (phase o l.var)
  pub greatest : (var : ℕ) → 0 < var → var ≤ t.vars → IsOpenVar t var → activity o var ≤ activity o l.var

-- ---- activities

-- the activities, and what a bump adds
pub record Weights : Type 0 where
  pub activities : List ℕ
  pub step : ℕ

abbrev pub weights : OrderValue → Weights
weights o = record { activities = o.activities; step = o.step }

-- what activities and the step stay below
abbrev pub limit : ℕ
limit = 2 ^ 40

-- half of all, rounded down, and a step of at least 1
abbrev pub halved : Weights → Weights
halved w = record { activities = map (λ a. a / 2) w.activities; step = max 1 (w.step / 2) }

-- the step is added to the variable's activity, and all are halved where that reaches the limit
abbrev pub bumped : Weights → ℕ → Weights
bumped w var =
    let sum = slice_index_or w.activities (var - 1) 0 + w.step in
    let more : Weights = record { activities = slice_set w.activities (var - 1) sum; step = w.step } in
    if nat_le limit sum then halved more else more

-- the step grows by a sixteenth and at least by 1, and all are halved where it reaches the limit
abbrev pub after_conflict : Weights → Weights
after_conflict w =
    let step = w.step + max 1 (w.step / 16) in
    let more : Weights = record { activities = w.activities; step = step } in
    if nat_le limit step then halved more else more

-- ---- variables that wait

-- the same variables wait
pub record SameWait (old new : OrderValue) : Type 0 where
  pub kept : (var : ℕ) → Contains old.waiting var → Contains new.waiting var
  pub only : (var : ℕ) → Contains new.waiting var → Contains old.waiting var

-- this variable waits too
pub record WaitsToo (old new : OrderValue) (var : ℕ) : Type 0 where
  pub here : Contains new.waiting var
  pub kept : (other : ℕ) → Contains old.waiting other → Contains new.waiting other
  pub only : (other : ℕ) → Contains new.waiting other → Contains old.waiting other ⊎ (other ≡ var)

-- nothing but the room has changed
pub record SameOrder (old new : OrderValue) : Type 0 where
  pub activities : new.activities ≡ old.activities
  pub phases : new.phases ≡ old.phases
  pub waiting : new.waiting ≡ old.waiting
  pub step : new.step ≡ old.step

-- further variables up to `vars` wait, with activity 0 and the phase false
pub record IsGrown (old new : OrderValue) (vars : ℕ) : Type 0 where
  pub activities : new.activities ≡ old.activities ++ replicate (vars - length old.activities) 0
  pub phases : new.phases ≡ old.phases ++ replicate (vars - length old.activities) false
  pub step : new.step ≡ old.step
  pub kept : (var : ℕ) → Contains old.waiting var → Contains new.waiting var
  pub fresh : (var : ℕ) → length old.activities < var → var ≤ vars → Contains new.waiting var
  pub only : (var : ℕ) → Contains new.waiting var → Contains old.waiting var ⊎ ((length old.activities < var) × (var ≤ vars))

-- no variable waits
abbrev pub NoneWaits : OrderValue → Type 0
NoneWaits o = (var : ℕ) → Contains o.waiting var → ⊥

-- no variable is open on the trail
abbrev pub NoneOpen : TrailValue → Type 0
NoneOpen t = (var : ℕ) → 0 < var → var ≤ t.vars → IsOpenVar t var → ⊥

-- the literal is in the last phase of a variable of greatest activity that waited and now doesn't
pub record IsTakenChoice (old new : OrderValue) (l : Literal) : Type 0 where
  pub positive : 0 < l.var
  pub within : l.var ≤ length old.activities
  pub last_phase : l.neg ≡ not (phase old l.var)
  pub greatest : (var : ℕ) → Contains old.waiting var → activity old var ≤ activity old l.var
  pub kept : (var : ℕ) → Contains old.waiting var → var ≢ l.var → Contains new.waiting var
  pub fewer : length new.waiting < length old.waiting
