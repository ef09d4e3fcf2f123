-- The walk back over a trail: its marks, and what the hints that it has found so far prove.
use Rattle.std.specs.Prelude.{◌≡◌, ◌≢◌, ℕ, ◌+◌, ◌<◌, ◌≤◌, ◌⊎◌, Bool, true, false, not, nat_eq, [], ◌++◌, Option, Some, List, length, reverse, slice_index_or, All, AllPairs, Contains, IsSome, Result, OnOk}
use Rattle.std.specs.FinMap.{get}
use Rattle.scut_base.specs.Literal.{Literal}
use Rattle.scut_base.specs.Assignment.{partial_truth}
use Rattle.pb_lin.specs.Constraint.{opposite}
use Rattle.pb_lin.specs.LineMap.{LineMap}
use Rattle.hint_rup.specs.Hints.{named}
use Rattle.hint_rup.specs.Propagation.{Conflicts}
use Rattle.hint_rup.specs.declared.hint.Hint.{Hint}
use Rattle.hint_rup.specs.declared.hint.Hint.TheVariants.{Id as IdHint}
use Rattle.clause_prop.specs.Steps.{TrailValue, last_level}
use Rattle.clause_prop.specs.declared.step.Step.{Step}
use Rattle.cdcl_trail.specs.SearchTrail.{AreLines, IsSearchTrail, IsStepAt}
use Rattle.cdcl_trail.specs.Learning.{stored}
use Rattle.cdcl_state.specs.declared.marks.Marks.{Marks}
use Rattle.cdcl_state.specs.declared.reach.Reach.{Reach}
use Rattle.cdcl_state.specs.declared.reach.Reach.TheVariants.{Level, Decisions}

-- whether a walk of this reach resolves the step
unfoldable pub is_resolved : Reach → Step → Bool
is_resolved (Level level) s = nat_eq s.level level
is_resolved Decisions s = not (nat_eq s.reason 0)

-- how many marked steps that it resolves it leaves
unfoldable pub spare : Reach → ℕ
spare (Level level) = 1
spare Decisions = 0

-- what its outcome says of a step's literal
unfoldable pub said : Reach → Literal → Literal
said (Level level) l = opposite l
said Decisions l = l

-- the level of a reach is the trail's highest, and above 0
abbrev pub IsAbove : TrailValue → Reach → Type 0
IsAbove t (Level level) = (level ≡ last_level t.steps) × (0 < level)
IsAbove t Decisions = Unit {0}

abbrev pub is_marked : List Bool → ℕ → Bool
is_marked marks p = slice_index_or marks p false

abbrev pub IsClear : List Bool → Type 0
IsClear marks = (p : ℕ) → is_marked marks p ≡ false

-- the walk resolves no step before `end`
abbrev pub AreUnresolved : TrailValue → Reach → ℕ → Type 0
AreUnresolved t reach end = (p : ℕ) (s : Step) → p < end → IsStepAt t p s → is_resolved reach s ≡ false

-- the places are those that are marked, each once, and of the first n
pub record AreMarks (n : ℕ) (marks : List Bool) (places : List ℕ) : Type 0 where
  pub listed : (p : ℕ) → is_marked marks p ≡ true → Contains places p
  pub on : All (λ p. is_marked marks p ≡ true) places
  pub apart : AllPairs (λ p q. p ≢ q) places
  pub within : All (λ p. p < n) places

-- every mark stays
abbrev pub IsMore : List Bool → List Bool → Type 0
IsMore marks more = (p : ℕ) → is_marked marks p ≡ true → is_marked more p ≡ true

-- the new list is the old one, and then more
abbrev pub IsLonger : List ℕ → List ℕ → Type 0
IsLonger old new = (rest : List ℕ) × (new ≡ old ++ rest)

-- the greatest of the places before `end`, and what is left of those before it
pub record IsNextPlace (places : List ℕ) (end : ℕ) (left : List ℕ) (place : ℕ) : Type 0 where
  pub before : place < end
  pub greatest : (p : ℕ) → Contains places p → p < end → p ≤ place
  pub others : (p : ℕ) → Contains places p → p < place → Contains left p

-- Marks on the first n places. The places in the list are those that were seen: those that are marked, and those whose marks were taken off.
pub record AreSeen (n : ℕ) (marks seen : List Bool) (places : List ℕ) : Type 0 where
  pub are : AreMarks n seen places
  pub known : IsMore marks seen
  pub long : n ≤ length marks
  pub room : length marks ≤ length seen

-- Marks on a trail, where those on steps that the walk resolves are at `least` or after it.
pub record IsWalk (t : TrailValue) (reach : Reach) (marks seen : List Bool) (places : List ℕ) (least : ℕ) : Type 0 where
  pub all : AreSeen (length t.steps) marks seen places
  pub above : (p : ℕ) (s : Step) → IsStepAt t p s → is_resolved reach s ≡ true → is_marked marks p ≡ true → least ≤ p
  pub resolved : (s : Step) → IsStepAt t least s → is_resolved reach s ≡ true

abbrev pub IsMarking : TrailValue → Reach → Marks → Type 0
IsMarking t reach m = IsWalk t reach m.on.items m.seen.items m.places m.least

abbrev pub HasSeen : ℕ → Marks → Type 0
HasSeen n m = AreSeen n m.on.items m.seen.items m.places

-- no place is marked, or was
pub record IsUnmarked (m : Marks) : Type 0 where
  pub on : IsClear m.on.items
  pub seen : IsClear m.seen.items
  pub places : m.places ≡ []
  pub room : length m.on.items ≤ length m.seen.items

-- where a step before `end` makes the literal false, its place is marked
abbrev pub IsMarkedBefore : TrailValue → List Bool → ℕ → Literal → Type 0
IsMarkedBefore t marks end l = (p : ℕ) (s : Step) → p < end → IsStepAt t p s → s.lit ≡ opposite l → is_marked marks p ≡ true

-- The partial assignment makes true what led to the conflict: the marked steps that aren't resolved, as all those from `end` on are that can be, and the literals that were given besides.
pub record Meets (t : TrailValue) (reach : Reach) (marks : List Bool) (end : ℕ) (given : List Literal) (p : List (Option Bool)) : Type 0 where
  pub at : (k : ℕ) (s : Step) → IsStepAt t k s → is_marked marks k ≡ true → (is_resolved reach s ≡ true → k < end) → partial_truth p s.lit ≡ Some true
  pub besides : All (λ l. partial_truth p l ≡ Some true) given

-- the hint is the id of a stored line
abbrev pub IsStoredHint : LineMap → Hint → Type 0
IsStoredHint store h = (id : ℕ) × (h ≡ IdHint id) × IsSome (get store id)

-- Whatever else is known, the hints lead from what led to the conflict to a conflict.
pub record IsClosing (store : LineMap) (t : TrailValue) (reach : Reach) (marks : List Bool) (end : ℕ) (given : List Literal) (hints : List Hint) : Type 0 where
  pub ids : All (IsStoredHint store) hints
  pub closing : (p : List (Option Bool)) → length p ≡ t.vars → Meets t reach marks end given p → Conflicts p (named (stored store) hints)

-- a walk over the trail may go back from `end`
pub record MayWalkBack (store : LineMap) (t : TrailValue) (reach : Reach) (end : ℕ) (m : Marks) : Type 0 where
  pub walk : IsMarking t reach m
  pub lines : AreLines t.vars store
  pub search : IsSearchTrail store t
  pub after : m.least + spare reach ≤ end
  pub within : end ≤ length t.steps

-- it went back from there to the least step that it leaves, and its hints still lead to a conflict
pub record WalksBack {A E : Type 0} (store : LineMap) (t : TrailValue) (reach : Reach) (end : ℕ) (old new : Marks) (hints more : List Hint) (result : Result A E) : Type 0 where
  pub walk : IsMarking t reach new
  pub room : length new.on.items ≡ length old.on.items
  pub after : new.least + spare reach ≤ end
  pub closing : OnOk result ((given : List Literal) → IsClosing store t reach old.on.items end given (reverse hints) → IsClosing store t reach new.on.items (new.least + spare reach) given (reverse more))

-- the literal is what the outcome says of the marked step at one of the places, which the walk doesn't resolve
pub record IsAside (t : TrailValue) (reach : Reach) (marks : List Bool) (places : List ℕ) (l : Literal) : Type 0 where
  pub place : ℕ
  pub step : Step
  pub there : IsStepAt t place step
  pub among : Contains places place
  pub on : is_marked marks place ≡ true
  pub unresolved : is_resolved reach step ≡ false
  pub is : l ≡ said reach step.lit

-- what the outcome says of the marked steps at the places, which are of different variables
pub record AreAside (t : TrailValue) (reach : Reach) (marks : List Bool) (places : List ℕ) (lits : List Literal) : Type 0 where
  pub each : All (IsAside t reach marks places) lits
  pub covers : (p : ℕ) (s : Step) → IsStepAt t p s → Contains places p → is_marked marks p ≡ true → is_resolved reach s ≡ false → Contains lits (said reach s.lit)
  pub apart : AllPairs (λ l m. l.var ≢ m.var) lits

-- the same with one literal more, in rising order of variables
pub record IsOutcome (t : TrailValue) (reach : Reach) (marks : List Bool) (places : List ℕ) (more : Literal) (lits : List Literal) : Type 0 where
  pub rising : AllPairs (λ l m. l.var < m.var) lits
  pub among : Contains lits more
  pub others : All (λ l. (l ≡ more) ⊎ IsAside t reach marks places l) lits
  pub covers : (p : ℕ) (s : Step) → IsStepAt t p s → Contains places p → is_marked marks p ≡ true → is_resolved reach s ≡ false → Contains lits (said reach s.lit)

-- the highest level of the marked steps at the places that aren't of the level `top`, or 0
pub record IsHighest (t : TrailValue) (marks : List Bool) (places : List ℕ) (top level : ℕ) : Type 0 where
  pub most : (p : ℕ) (s : Step) → IsStepAt t p s → Contains places p → is_marked marks p ≡ true → s.level ≢ top → s.level ≤ level
  pub reached : (level ≡ 0) ⊎ ((p : ℕ) × (s : Step) × IsStepAt t p s × Contains places p × (is_marked marks p ≡ true) × (s.level ≢ top) × (s.level ≡ level))

-- literals of the variables 1 to n
abbrev pub AreVariables : ℕ → List Literal → Type 0
AreVariables n lits = All (λ l. (0 < l.var) × (l.var ≤ n)) lits
