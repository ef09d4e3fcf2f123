-- The normal form of an instance is a problem.
use Rattle.instance.specs.Shape.{InstanceValue, IsWithinLimits}
use Rattle.pb_lin.specs.Problem.{ProblemValue, IsProblem}
use Rattle.instance_normal.specs.NormalForm.{IsNormalFormOf}

-- The normal form of an instance within its limits is a problem.
abbrev pub NormalFormsAreProblems : Type 0
NormalFormsAreProblems = (i : InstanceValue) (p : ProblemValue) → IsWithinLimits i → IsNormalFormOf i p → IsProblem p
