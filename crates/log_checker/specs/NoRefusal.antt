-- That nothing refuses a list and a log.
use Rattle.std.specs.Prelude.{ℕ, true, List}
use Rattle.front_set.specs.declared.entry.Entry.{Entry}
use Rattle.front_text.specs.Spelling.{Spells}
use Rattle.instance.specs.Shape.{InstanceValue}
use Rattle.instance_normal.specs.NormalForm.{IsNormalFormOf}
use Rattle.pb_lin.specs.Problem.{ProblemValue}
use Rattle.proof_laws.specs.declared.why.Why.{Why}
use Rattle.log_checker.specs.Accepted.{problem_vectors}
use Rattle.log_checker.specs.ListFaults.{IsListFault}
use Rattle.log_checker.specs.LogFaults.{IsLogFault}
use Rattle.log_checker.specs.declared.fault.ListWhy.{ListWhy}

-- No entry of the list is wrong, nor any line of the log, judged over the instance's normal form with the vectors of the list's entries.
pub record IsRefusedNowhere (i : InstanceValue) (list log : List ℕ) : Type 0 where
  pub right_list : (k : ℕ) (why : ListWhy) → IsListFault i list k why → ⊥
  pub right_log : (entries : List Entry) (p : ProblemValue) (k : ℕ) (why : Why) → Spells list true entries → IsNormalFormOf i p → IsLogFault p (problem_vectors i entries) log k why → ⊥
