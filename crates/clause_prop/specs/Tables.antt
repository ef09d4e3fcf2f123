-- How the tables of a trail agree with its steps.
use Rattle.std.specs.Prelude.{◌≡◌, ℕ, ◌-◌, ◌<◌, ◌≤◌, Bool, List, length, take, slice_index, slice_index_or, Option, count_by}
use Rattle.std.specs.Option.{is_some}
use Rattle.clause_prop.specs.Steps.{AreSteps, assigned}
use Rattle.clause_prop.specs.declared.step.Step.{Step}

-- The first `count` of the steps are the trail's; each variable has its value, and its place where it has a step.
pub record AreTables (values : List (Option Bool)) (places : List ℕ) (steps : List Step) (count : ℕ) : Type 0 where
  pub room : length values ≤ length steps
  pub placed : length values ≤ length places
  pub counted : count ≡ count_by is_some values
  pub are : AreSteps (length values) (take count steps)
  pub told : values ≡ assigned (length values) (take count steps)
  pub found : (k : ℕ) (d : Step) → k < count → slice_index places ((slice_index_or steps k d).lit.var - 1) ≡ k
