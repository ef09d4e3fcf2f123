-- Lists that a proof certifies.
use Rattle.std.specs.Prelude.{◌≡◌, ℕ, true, List, Option, Some, All}
use Rattle.front_set.specs.declared.entry.Entry.{Entry}
use Rattle.instance.specs.Shape.{InstanceValue}
use Rattle.instance.specs.ParetoFront.{AreProblemVectors}
use Rattle.pb_lin.specs.Problem.{ProblemValue}
use Rattle.proof_laws.specs.State.{StateValue}
use Rattle.proof_laws.specs.Replay.{IsReplay}
use Rattle.proof_laws.specs.Earned.{IsEarned, HasMore}
use Rattle.proof_laws.specs.declared.line.Line.{Line}
use Rattle.log_checker.specs.Accepted.{IsCovered, IsRightList, problem_vectors}
use Rattle.certified_front.specs.declared.ending.Ending.{Ending}
use Rattle.certified_front.specs.declared.ending.Ending.TheVariants.{Complete, Incomplete}

-- models with their costs, in rising order, none weakly dominating another, of which one is below each logged vector
pub record CoversLogged (i : InstanceValue) (p : ProblemValue) (lines : List Line) (entries : List Entry) : Type 0 where
  pub right : IsRightList i entries
  pub vectors : AreProblemVectors i entries
  pub covered : (s : StateValue) → IsReplay p lines s → All (IsCovered (problem_vectors i entries)) s.sols

-- the lines lead to an end
abbrev pub HasEnded : ProblemValue → List Line → Type 0
HasEnded p lines = (s : StateValue) × IsReplay p lines s × (s.ended ≡ true)

-- the lines have earned as many clauses as the limit allows, and one more could follow
pub record HasSpent (most : Option ℕ) (p : ProblemValue) (lines : List Line) (learned : ℕ) : Type 0 where
  pub limit : most ≡ Some learned
  pub earned : IsEarned p lines learned
  pub more : HasMore p lines

-- how it ended
abbrev pub IsEnding : Option ℕ → ProblemValue → List Line → Ending → Type 0
IsEnding limit p lines Complete = HasEnded p lines
IsEnding limit p lines (Incomplete learned) = HasSpent limit p lines learned
