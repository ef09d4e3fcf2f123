-- What a proof has logged, and the lines that turns of searches add.
use Rattle.std.specs.Prelude.{◌≡◌, List, [], ◌∷◌, ◌++◌, ℤ, All, Contains}
use Rattle.std.specs.List.{flat_map}
use Rattle.front_set.specs.Vector.{IsBelow}
use Rattle.pb_lin.specs.Problem.{ProblemValue, problem_costs}
use Rattle.proof_laws.specs.Refusal.{assignment_of}
use Rattle.proof_laws.specs.Earned.{IsLearnedId}
use Rattle.proof_laws.specs.declared.line.Line.{Line}
use Rattle.recording.specs.Advice.{IsConservative}
use Rattle.proof_laws.specs.declared.line.Line.TheVariants.{Pol, Rup, Learn, Def, Red, Sol, Reduce}

-- the costs of the model that a line logs, if it logs one
abbrev pub logged_by : ProblemValue → Line → List (List ℤ)
logged_by p (Sol model cut ids) = problem_costs p (assignment_of model) ∷ []
logged_by p line = []

-- the cost vectors that the lines have logged, in order
abbrev pub logged : ProblemValue → List Line → List (List ℤ)
logged p lines = flat_map (logged_by p) lines

-- some logged vector is below v
abbrev pub IsCovered : ProblemValue → List Line → List ℤ → Type 0
IsCovered p lines v = (u : List ℤ) × Contains (logged p lines) u × IsBelow u v

-- no vector more is logged
abbrev pub LogsNone : ProblemValue → List Line → List Line → Type 0
LogsNone p old new = logged p new ≡ logged p old

-- one vector more is logged
abbrev pub Logs : ProblemValue → List Line → List Line → List ℤ → Type 0
Logs p old new v = logged p new ≡ logged p old ++ v ∷ []

-- a conservative line, a learned clause, a solution, or a reduction of learned clauses
abbrev pub IsTurnLine : ProblemValue → List Line → Line → Type 0
IsTurnLine p before (Pol tokens) = Unit {0}
IsTurnLine p before (Rup goal hints) = Unit {0}
IsTurnLine p before (Learn goal hints) = Unit {0}
IsTurnLine p before (Def var sum) = Unit {0}
IsTurnLine p before (Red goal witness proofs) = witness ≡ []
IsTurnLine p before (Sol model cut ids) = Unit {0}
IsTurnLine p before (Reduce ids) = All (IsLearnedId p before) ids
IsTurnLine p before line = ⊥

-- the new lines are the old ones, and lines of turns
pub record AddsTurnLines (p : ProblemValue) (old new : List Line) : Type 0 where
  pub more : List Line
  pub is : new ≡ old ++ more
  pub kinds : (first : List Line) (line : Line) (after : List Line) → more ≡ first ++ (line ∷ after) →
      IsTurnLine p (old ++ first) line

-- a conservative line, or a solution
abbrev pub IsTakenLine : Line → Type 0
IsTakenLine (Sol model cut ids) = Unit {0}
IsTakenLine line = IsConservative line

-- the new lines are the old ones, and such lines
pub record AddsTakenLines (old new : List Line) : Type 0 where
  pub more : List Line
  pub is : new ≡ old ++ more
  pub kinds : All IsTakenLine more
