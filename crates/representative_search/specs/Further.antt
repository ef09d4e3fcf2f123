-- What a search for one model more leaves, that serves a vector and isn't listed.
use Rattle.std.specs.Prelude.{◌≡◌, ℕ, Bool, List, take, ℤ, Contains, Option, Some, None}
use Rattle.scut_base.specs.Files.{Files}
use Rattle.instance.specs.ParetoFront.{problem_vector}
use Rattle.instance.specs.Shape.{InstanceValue}
use Rattle.pb_lin.specs.Problem.{ProblemValue, IsProblemModel}
use Rattle.representatives.specs.Representatives.{Serves}
use Rattle.representative_search.specs.Gathered.{ListsAll}
use Rattle.representative_search.specs.Seeking.{IsRefuted}

-- a model of the problem, cut to so many variables; or none, and the log shows it
abbrev pub IsCutModel : Option Files → Option Files → List ℕ → ProblemValue → ℕ → Option (List Bool) → Type 0
IsCutModel old new name p vars (Some a) = (b : List Bool) × IsProblemModel p b × (a ≡ take vars b)
IsCutModel old new name p vars None = IsRefuted old new name p

-- a model more; or none, and the log shows that all are listed
abbrev pub IsFurther : Option Files → Option Files → List ℕ → InstanceValue → ProblemValue → List ℤ → List (List Bool) → Option (List Bool) → Type 0
IsFurther old new name i p v list (Some a) = Serves i v a × (Contains list a → ⊥)
IsFurther old new name i p v list None = ((a : List Bool) → Serves i v a → Contains list a) × ListsAll old new name p (problem_vector i v) list
