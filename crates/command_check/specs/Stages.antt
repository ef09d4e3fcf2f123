-- What is known between the stages of `check`.
use Rattle.std.specs.Prelude.{◌≡◌, List}
use Rattle.front_set.specs.declared.entry.Entry.{Entry}
use Rattle.instance.specs.Shape.{InstanceValue}
use Rattle.instance_normal.specs.NormalForm.{IsNormalFormOf}
use Rattle.log_checker.specs.Accepted.{problem_vectors}
use Rattle.command_base.specs.Judging.{JudgedBy}

-- the log is judged by the instance's normal form and the entries' vectors
pub record IsJudgedFor (i : InstanceValue) (entries : List Entry) (by : JudgedBy) : Type 0 where
  pub normal : IsNormalFormOf i by.problem
  pub vectors : by.vectors ≡ problem_vectors i entries
