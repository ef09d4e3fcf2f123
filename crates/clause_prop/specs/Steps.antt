-- Trails: steps, each of which makes a literal true.
use Rattle.std.specs.Prelude.{◌≡◌, ◌≢◌, ℕ, ◌-◌, ◌<◌, ◌≤◌, Bool, not, List, [], ◌∷◌, ◌++◌, fold, replicate, slice_set, slice_get, take, All, AllPairs, Option, None, Some}
use Rattle.clause_prop.specs.declared.step.Step.{Step}

-- a trail: its steps over the variables 1 to vars
pub record TrailValue : Type 0 where
  pub vars : ℕ
  pub steps : List Step

-- a partial assignment in which the step's literal is true
abbrev pub with_true : List (Option Bool) → Step → List (Option Bool)
with_true p s = slice_set p (s.lit.var - 1) (Some (not s.lit.neg))

-- the partial assignment of n variables in which the steps' literals are true
abbrev pub assigned : ℕ → List Step → List (Option Bool)
assigned n steps = fold with_true (replicate n None) steps

-- the partial assignment of a trail
abbrev pub partial : TrailValue → List (Option Bool)
partial t = assigned t.vars t.steps

-- the steps are of distinct variables from 1 to n
pub record AreSteps (n : ℕ) (steps : List Step) : Type 0 where
  pub within : All (λ s. (0 < s.lit.var) × (s.lit.var ≤ n)) steps
  pub apart : AllPairs (λ r s. r.lit.var ≢ s.lit.var) steps

-- the trail with a step more
abbrev pub with_step : TrailValue → Step → TrailValue
with_step t s = record { vars = t.vars; steps = t.steps ++ s ∷ [] }

-- the first steps of a trail
abbrev pub cut : TrailValue → ℕ → TrailValue
cut t keep = record { vars = t.vars; steps = take keep t.steps }

-- the level of the last step, or 0 where there is none
abbrev pub last_level : List Step → ℕ
last_level steps = fold (λ level s. s.level) 0 steps

-- the step at this place is of the variable
pub record IsPlaceOf (steps : List Step) (var k : ℕ) : Type 0 where
  pub step : Step
  pub there : slice_get steps k ≡ Some step
  pub is : step.lit.var ≡ var
