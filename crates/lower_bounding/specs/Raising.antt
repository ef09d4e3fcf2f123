-- The limits that a fence asks for, and what answers make rise.
use Rattle.std.specs.Prelude.{◌≡◌, ℕ, ◌<◌, ◌-◌, ◌^◌, Bool, true, false, List, length, ℤ, pos, ◌<ℤ◌, ◌≤ℤ◌}
use Rattle.front_set.specs.Vector.{IsBelow}
use Rattle.pb_lin.specs.Problem.{problem_costs}
use Rattle.proof_rules.specs.Recording.{Snapshot}
use Rattle.search_base.specs.Turns.{IsEndLine, IsTakable}
use Rattle.relaxations.specs.Telling.{IsStanding, StandInTheWay, number_at, stands_at}
use Rattle.relaxations.specs.declared.below.Below.{Below}
use Rattle.relaxations.specs.declared.below.Below.TheVariants.{Model, End, Above}
use Rattle.lower_bounding.specs.Fences.{FenceValue}

-- ---- limits

-- a number is its own limit, unless it is at its top: then there is none
pub record IsLimit (number top limit : ℤ) : Type 0 where
  pub below : number <ℤ top → limit ≡ number
  pub at_top : top ≤ℤ number → limit ≡ pos (2 ^ 63 - 1)
  pub least : number ≤ℤ limit

-- the same for each number of a fence
pub record AreLimits (fence tops limits : List ℤ) : Type 0 where
  pub count : length limits ≡ length fence
  pub each : (i : ℕ) → i < length fence
      → IsLimit (number_at fence i) (number_at tops i) (number_at limits i)

-- ---- answers

-- some numbers stand in the way, and each of these is below its top
pub record CanRaise (fence tops : List ℤ) (stands : List Bool) : Type 0 where
  pub count : length stands ≡ length fence
  pub some : (i : ℕ) × (i < length fence) × IsStanding stands i
  pub each : (i : ℕ) → i < length fence → IsStanding stands i
      → number_at fence i <ℤ number_at tops i

-- what an answer tells of the fence
abbrev pub TellsOfFence : Snapshot → FenceValue → Below → Type 0
TellsOfFence b s (Model x) = IsTakable b x × IsBelow (problem_costs b.problem x) s.fence
TellsOfFence b s (End id) = IsEndLine b.problem b.lines id
TellsOfFence b s (Above stands) = StandInTheWay b s.fence stands × CanRaise s.fence s.tops stands

-- ---- raising

-- a number that stands in the way rises, to at most its top, and any other stays
abbrev pub RisesWhere : Bool → ℤ → ℤ → ℤ → Type 0
RisesWhere true number top now = (number <ℤ now) × (now ≤ℤ top)
RisesWhere false number top now = now ≡ number

-- the same for each number of a fence
pub record IsRaised (fence tops : List ℤ) (stands : List Bool) (now : List ℤ) : Type 0 where
  pub count : length now ≡ length fence
  pub each : (i : ℕ) → i < length fence
      → RisesWhere (stands_at stands i) (number_at fence i) (number_at tops i) (number_at now i)
