-- What is kept while hints are looked for.
use Rattle.std.specs.Prelude.{◌≡◌, ℕ, ◌<◌, ◌≤◌, Bool, List, length, All, Option, Some}
use Rattle.std.specs.FinMap.{get}
use Rattle.pb_lin.specs.Constraint.{ConstraintValue}
use Rattle.pb_lin.specs.LineMap.{LineMap}
use Rattle.pb_lin.specs.Propagation.{IsClosedUnder}
use Rattle.clause_prop.specs.Steps.{TrailValue}
use Rattle.proof_laws.specs.State.{StateValue}
use Rattle.cdcl_state.specs.Searching.{SearchValue}

-- all steps are of level 0
abbrev pub IsFlat : TrailValue → Type 0
IsFlat t = All (λ s. s.level ≡ 0) t.steps

-- stored are the live lines with ids below `next`
pub record IsTaken (live : LineMap) (next : ℕ) (store : LineMap) : Type 0 where
  pub held : (id : ℕ) (c : ConstraintValue) → get store id ≡ Some c → (id < next) × (get live id ≡ Some c)
  pub all : (id : ℕ) (c : ConstraintValue) → id < next → get live id ≡ Some c → get store id ≡ Some c

-- some partial assignment of n variables is closed for the lines
abbrev pub HasClosed : ℕ → LineMap → Type 0
HasClosed n store = (q : List (Option Bool)) × (length q ≡ n) × ((id : ℕ) (c : ConstraintValue) → get store id ≡ Some c → IsClosedUnder q c)

-- what is kept beside a state: lines up to an id are stored, over some of the variables, and nothing is decided
pub record IsKept (s : StateValue) (next : ℕ) (v : SearchValue) : Type 0 where
  pub taken : IsTaken s.live next v.store
  pub vars : v.trail.vars ≤ s.vars
  pub flat : IsFlat v.trail
  pub positive : 0 < next
  pub within : next ≤ s.next_id
