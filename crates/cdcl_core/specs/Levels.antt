-- The levels that a clause joins.
use Rattle.std.specs.Prelude.{◌≡◌, ℕ, ◌<◌, List, length, All, AllPairs, Contains}
use Rattle.scut_base.specs.Literal.{Literal}
use Rattle.clause_prop.specs.Steps.{TrailValue}
use Rattle.cdcl_state.specs.Searching.{IsLevelOf}

-- these are the levels of the literals' steps
pub record AreLevels (t : TrailValue) (lits : List Literal) (levels : List ℕ) : Type 0 where
  pub found : All (λ level. (l : Literal) × Contains lits l × IsLevelOf t l level) levels
  pub all : (l : Literal) (level : ℕ) → Contains lits l → IsLevelOf t l level → Contains levels level

-- the literals' steps are of so many levels
pub record IsLevelCount (t : TrailValue) (lits : List Literal) (n : ℕ) : Type 0 where
  pub levels : List ℕ
  pub are : AreLevels t lits levels
  pub rising : AllPairs (λ i j. i < j) levels
  pub count : n ≡ length levels
