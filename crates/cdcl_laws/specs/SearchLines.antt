-- Search lines that leave room for an implied clause.
use Rattle.std.specs.Prelude.{◌≡◌, List}
use Rattle.std.specs.List.{count_by}
use Rattle.pb_lin.specs.Problem.{ProblemValue}
use Rattle.proof_laws.specs.declared.line.Line.{Line}
use Rattle.oracle.specs.Solving.{AddsSearchLines, is_rup}

-- search lines were added, none of them an implied clause
pub record AddsLearned (p : ProblemValue) (old new : List Line) : Type 0 where
  pub adds : AddsSearchLines p old new
  pub none_implied : count_by is_rup adds.more ≡ 0
