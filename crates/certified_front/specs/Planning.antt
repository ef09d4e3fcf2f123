-- What a plan leaves in the lines of a proof.
use Rattle.std.specs.Prelude.{◌≡◌, true, List, [], ◌++◌, All, if◌then◌else◌}
use Rattle.pb_lin.specs.Problem.{ProblemValue}
use Rattle.proof_laws.specs.Earned.{IsBoosted}
use Rattle.proof_laws.specs.declared.line.Line.{Line}
use Rattle.recording.specs.Advice.{IsAdvice}
use Rattle.harden.specs.Hardened.{hardened}
use Rattle.certified_front.specs.Stopping.{AddsSearch}
use Rattle.certified_front.specs.declared.ending.Ending.{Ending}
use Rattle.certified_front.specs.declared.ending.Ending.TheVariants.{Complete, Incomplete}
use Rattle.certified_front.specs.declared.preparing.Plan.{Plan}

-- hardening's lines, if the plan asks for them
abbrev pub hardened_by : Plan → ProblemValue → List Line
hardened_by plan p = if plan.harden then hardened p else []

-- hardening's lines, if the plan asks for them, and after them derived, implied, defined or redundant constraints
pub record ArePrepared (plan : Plan) (p : ProblemValue) (lines : List Line) : Type 0 where
  pub advised : List Line
  pub is : lines ≡ hardened_by plan p ++ advised
  pub kinds : All IsAdvice advised

-- a proof that has ended bounds each objective by its least value, before it logs anything
abbrev pub IsBoostedAtEnd : ProblemValue → List Line → Ending → Type 0
IsBoostedAtEnd p lines Complete = IsBoosted p lines
IsBoostedAtEnd p lines (Incomplete learned) = Unit {0}

-- The lines are those that the plan prepares, then those of turns, then perhaps the end, and nothing else; and they have
-- what boosting leaves, if the plan asks for it.
pub record FollowsPlan (plan : Plan) (p : ProblemValue) (lines : List Line) (how : Ending) : Type 0 where
  pub first : List Line
  pub prepared : ArePrepared plan p first
  pub searched : AddsSearch p first lines
  pub boosted : plan.boost ≡ true → IsBoostedAtEnd p lines how
