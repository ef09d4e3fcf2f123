-- When a list and a log are loosely accepted, and what that says of the elaborated log.
use Rattle.std.specs.Prelude.{◌≡◌, ◌↔◌, ℕ, ℤ, true, All, List, Option, None}
use Rattle.front_set.specs.declared.entry.Entry.{Entry}
use Rattle.front_text.specs.Spelling.{Spells}
use Rattle.instance.specs.Shape.{InstanceValue}
use Rattle.instance_normal.specs.NormalForm.{IsNormalFormOf}
use Rattle.pb_lin.specs.Problem.{ProblemValue}
use Rattle.proof_laws.specs.State.{StateValue, start}
use Rattle.proof_laws.specs.declared.line.Line.{Line}
use Rattle.proof_laws.specs.declared.why.Why.{Why}
use Rattle.proof_lines.specs.declared.spelling.Spelling.TheVariants.{Plain}
use Rattle.proof_text.specs.LogText.{SpellsLog}
use Rattle.proof_text.specs.Versions.{log_text}
use Rattle.log_checker.specs.Accepted.{IsAccepted, IsCovered, IsRightList, problem_vectors}
use Rattle.command_elaborate.specs.Loose.{IsLooseReplay}
use Rattle.command_elaborate.specs.Reasons.{Elaborates}

-- the bytes spell lines that are loosely legal, each where it stands, and lead to an end; and each logged vector is covered
pub record IsLooseEndedProof (p : ProblemValue) (vectors : List (List ℤ)) (log : List ℕ) : Type 0 where
  pub lines : List Line
  pub spelled : SpellsLog log lines
  pub state : StateValue
  pub replay : IsLooseReplay p lines state
  pub ended : state.ended ≡ true
  pub covered : All (IsCovered vectors) state.sols

-- A log is loosely accepted with a list: as `IsAccepted` says, but that its lines need be loosely legal alone.
pub record IsLooselyAccepted (i : InstanceValue) (list log : List ℕ) : Type 0 where
  pub entries : List Entry
  pub spelled : Spells list true entries
  pub right : IsRightList i entries
  pub problem : ProblemValue
  pub normal : IsNormalFormOf i problem
  pub proof : IsLooseEndedProof problem (problem_vectors i entries) log

-- no line was refused, and the log of the answers, in version 1, is accepted
abbrev pub IsAcceptedElaborated : InstanceValue → List ℕ → List Line → Option Why → Type 0
IsAcceptedElaborated i list news refused = (refused ≡ None) × IsAccepted i list (log_text Plain news)

-- A log is loosely accepted with a list exactly if elaborating its lines refuses none, and the elaborated log is accepted with it.
abbrev pub LooselyAcceptedWhereElaborated : Type 0
LooselyAcceptedWhereElaborated =
    (i : InstanceValue) (p : ProblemValue) (list log : List ℕ) (lines news : List Line) (t : StateValue) (refused : Option Why)
    → IsNormalFormOf i p → SpellsLog log lines → Elaborates p (start p) lines news t refused
    → IsLooselyAccepted i list log ↔ IsAcceptedElaborated i list news refused
