-- What a checker judges a log by.
use Rattle.std.specs.Prelude.{List, Result, Ok, Err, ℤ}
use Rattle.pb_lin.specs.Problem.{ProblemValue}
use Rattle.log_checker.specs.Checking.{CheckerValue}
use Rattle.log_checker.specs.declared.fault.CheckFault.{CheckFault}
use Rattle.log_checker.specs.declared.fault.CheckFault.TheVariants.{Refused as LineRefused}
use Rattle.command_base.specs.declared.log_file.LineFault.{LineFault}
use Rattle.command_base.specs.declared.log_file.LineFault.TheVariants.{Refused, NoMemory}

-- a problem, and the vectors that may cover what is logged
pub record JudgedBy : Type 0 where
  pub problem : ProblemValue
  pub vectors : List (List ℤ)

abbrev pub judged_by : CheckerValue → JudgedBy
judged_by c = record { problem = c.problem; vectors = c.vectors }

-- its answer, as an answer to a piece of a log; it refuses no list
abbrev pub line_answer : Result (Unit {0}) CheckFault → Result (Unit {0}) LineFault
line_answer (Ok done) = Ok done
line_answer (Err (LineRefused k why)) = Err (Refused k why)
line_answer (Err fault) = Err NoMemory
