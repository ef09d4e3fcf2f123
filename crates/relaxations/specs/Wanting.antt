-- Which model is wanted, and what answers tell of that.
use Rattle.std.specs.Prelude.{◌≡◌, length, All}
use Rattle.pb_lin.specs.CostRow.{IsCostRow}
use Rattle.pb_lin.specs.Problem.{ProblemValue}
use Rattle.proof_rules.specs.Recording.{Snapshot}
use Rattle.relaxations.specs.Telling.{Tells, TellsAny}
use Rattle.relaxations.specs.declared.below.Below.{Below}
use Rattle.relaxations.specs.declared.wanted.Wanted.{Wanted}
use Rattle.relaxations.specs.declared.wanted.Wanted.TheVariants.{Any, Within, Better}

-- limits have a number for each of the problem's objectives
abbrev pub IsOf : ProblemValue → Wanted → Type 0
IsOf p Any = Unit {0}
IsOf p (Within limits) = length limits ≡ length p.costs
IsOf p (Better aim) = length aim ≡ length p.costs

-- what an answer tells of what is wanted
abbrev pub TellsOf : Snapshot → Wanted → Below → Type 0
TellsOf b Any below = TellsAny b below
TellsOf b (Within limits) below = Tells b limits below
TellsOf b (Better aim) below = Tells b aim below

-- the problem's objectives are cost rows
abbrev pub HasCostRows : ProblemValue → Type 0
HasCostRows p = All (λ r. IsCostRow r.terms r.offset) p.costs
