-- What the answers to questions tell, and what stays good.
use Rattle.std.specs.Prelude.{◌≡◌, ℕ, ◌-◌, ◌^◌, ◌<◌, Bool, true, false, List, length, slice_index_or, ℤ, pos, ◌<ℤ◌, ◌≤ℤ◌, Option, Some, Result, IfErr}
use Rattle.front_set.specs.Vector.{IsBelow}
use Rattle.pb_lin.specs.Problem.{problem_costs}
use Rattle.proof_laws.specs.State.{StateValue, Satisfies}
use Rattle.proof_laws.specs.Replay.{IsReplay}
use Rattle.proof_rules.specs.Recording.{Snapshot}
use Rattle.oracle.specs.declared.fault.OracleFault.{OracleFault}
use Rattle.search_base.specs.Logged.{LogsNone}
use Rattle.search_base.specs.Boards.{BoardValue}
use Rattle.search_base.specs.Good.{GoesOn, IsGood}
use Rattle.search_base.specs.Turns.{IsEndLine, IsInOrder, IsSearchFault, IsTakable}
use Rattle.search_base.specs.declared.objective_bound.ObjectiveBound.{ObjectiveBound}
use Rattle.relaxations.specs.declared.below.Below.{Below}
use Rattle.relaxations.specs.declared.below.Below.TheVariants.{Model, End, Above}

-- ---- limits

-- the number at a place
abbrev pub number_at : List ℤ → ℕ → ℤ
number_at v i = slice_index_or v i (pos 0)

-- whether the limit at this place stands in the way
abbrev pub stands_at : List Bool → ℕ → Bool
stands_at stands i = slice_index_or stands i false

abbrev pub IsStanding : List Bool → ℕ → Type 0
IsStanding stands i = stands_at stands i ≡ true

-- some limits stand in the way, and each of these is below 2^63 - 1
pub record CanRise (limits : List ℤ) (stands : List Bool) : Type 0 where
  pub count : length stands ≡ length limits
  pub some : (i : ℕ) × (i < length limits) × IsStanding stands i
  pub each : (i : ℕ) → i < length limits → IsStanding stands i → number_at limits i <ℤ pos (2 ^ 63 - 1)

-- at these places the costs are at most the limits
abbrev pub KeepsTo : List ℤ → (ℕ → Type 0) → List ℤ → Type 0
KeepsTo limits IsPlace costs =
    (i : ℕ) → i < length limits → IsPlace i → number_at costs i ≤ℤ number_at limits i

-- some assignment that satisfies the state that is reached has such costs
abbrev pub IsRemainingAt : Snapshot → List ℤ → (ℕ → Type 0) → Type 0
IsRemainingAt a limits IsPlace = (s : StateValue) × IsReplay a.problem a.lines s
    × (x : List Bool) × Satisfies a.problem s x × KeepsTo limits IsPlace (problem_costs a.problem x)

-- nothing that is left keeps to the limits that stand in the way, whatever its other costs are
abbrev pub StandInTheWay : Snapshot → List ℤ → List Bool → Type 0
StandInTheWay b limits stands = IsRemainingAt b limits (IsStanding stands) → ⊥

-- ---- answers

-- what an answer tells of the limits
abbrev pub Tells : Snapshot → List ℤ → Below → Type 0
Tells b limits (Model x) = IsTakable b x × IsBelow (problem_costs b.problem x) limits
Tells b limits (End id) = IsEndLine b.problem b.lines id
Tells b limits (Above stands) = StandInTheWay b limits stands × CanRise limits stands

-- it is known that nothing keeps to the limits, and something may be left
abbrev pub is_closed : Option Below → Bool
is_closed (Some (Above stands)) = true
is_closed found = false

-- what it tells where there are no limits
abbrev pub TellsAny : Snapshot → Below → Type 0
TellsAny b (Model x) = IsTakable b x
TellsAny b (End id) = IsEndLine b.problem b.lines id
TellsAny b (Above stands) = ⊥

-- some board makes the state good
abbrev pub IsGoodWithSome : Snapshot → List ObjectiveBound → Type 0
IsGoodWithSome a asked = (front : BoardValue) × IsGood a asked front

-- whatever board makes the one state good makes the other good, and nothing was logged
abbrev pub StaysGood : Snapshot → Snapshot → List ObjectiveBound → List ObjectiveBound → Type 0
StaysGood a b old new =
    (front : BoardValue) → IsGood a old front → IsGood b new front × LogsNone a.problem a.lines b.lines

-- ---- calls

-- the state stays good where all may go on, and a fault says why there is no answer
pub record SeeksOn {T : Type 0} (a b : Snapshot) (old new : List ObjectiveBound) (result : Result T OracleFault) : Type 0 where
  pub good : IsInOrder result → StaysGood a b old new
  pub fault : IfErr result (IsSearchFault a b)
  pub goes_on : GoesOn a b
