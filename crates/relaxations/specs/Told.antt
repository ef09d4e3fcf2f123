-- What comes of questions.
use Rattle.pb_lin.specs.Problem.{ProblemValue, IsProblemModel}
use Rattle.relaxations.specs.declared.asking.Told.{Told}
use Rattle.relaxations.specs.declared.asking.Told.TheVariants.{Model}

-- a model is one of the problem
abbrev pub IsTold : ProblemValue → Told → Type 0
IsTold p (Model x) = IsProblemModel p x
IsTold p told = Unit {0}
