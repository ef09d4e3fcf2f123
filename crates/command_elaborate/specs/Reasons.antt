-- What an elaborator answers, line by line and for a list of lines.
use Rattle.std.specs.Prelude.{◌≡◌, List, [], ◌∷◌, All, Option, None, Some}
use Rattle.pb_lin.specs.Constraint.{ConstraintValue, negation}
use Rattle.pb_lin.specs.Problem.{ProblemValue}
use Rattle.hint_rup.specs.declared.hint.Hint.{Hint}
use Rattle.proof_laws.specs.State.{StateValue}
use Rattle.proof_laws.specs.WellFormed.{IsHint, IsWellFormed}
use Rattle.proof_laws.specs.Refusal.{IsHintsFault}
use Rattle.proof_laws.specs.Legal.{IsNext}
use Rattle.proof_laws.specs.declared.line.Line.{Line}
use Rattle.proof_laws.specs.declared.why.Why.{Why}
use Rattle.proof_laws.specs.declared.why.Why.TheVariants.{RupOpen}
use Rattle.command_elaborate.specs.Loose.{IsElaborated, IsLooselyRefused}
use Rattle.command_elaborate.specs.declared.fault.ElabFault.{ElabFault}
use Rattle.command_elaborate.specs.declared.fault.ElabFault.TheVariants.{Refused, NoMemory}

-- a proof over a problem, and what it has reached
pub record Elaboration : Type 0 where
  pub problem : ProblemValue
  pub state : StateValue

-- the reason of a refusal; want of memory says nothing
abbrev pub IsLooseReason : ProblemValue → StateValue → Line → ElabFault → Type 0
IsLooseReason p s line (Refused why) = IsLooselyRefused p s line why
IsLooseReason p s line NoMemory = Unit {0}

-- the hints prove the goal, and a log can spell them
abbrev pub Proves : StateValue → ConstraintValue → List Hint → Type 0
Proves s goal hints = IsHintsFault s (negation goal) None hints RupOpen None × All IsHint hints

-- the line with hints, which is legal
pub record IsAdded (p : ProblemValue) (s : StateValue) (line new : Line) (t : StateValue) : Type 0 where
  pub elaborated : IsElaborated line new
  pub formed : IsWellFormed new
  pub next : IsNext p s new t

-- Elaborating lines from s, one after another, up to the first that is refused: the new lines, the state after them, and the reason of the refusal, if there is one.
abbrev pub Elaborates : ProblemValue → StateValue → List Line → List Line → StateValue → Option Why → Type 0
Elaborates p s [] news t refused = (news ≡ []) × (t ≡ s) × (refused ≡ None)
Elaborates p s (line ∷ lines) [] t refused = (t ≡ s) × ((why : Why) × (refused ≡ Some why) × IsLooselyRefused p s line why)
Elaborates p s (line ∷ lines) (new ∷ news) t refused = (next : StateValue) × IsAdded p s line new next × Elaborates p next lines news t refused
