-- Legal lines: what refuses a line, and the state after one that isn't refused.
use Rattle.std.specs.Prelude.{◌≡◌, [], None, Some, Ok}
use Rattle.pb_lin.specs.Constraint.{ConstraintValue}
use Rattle.pb_lin.specs.Problem.{ProblemValue, problem_costs}
use Rattle.cutting_planes.specs.Stack.{IsValueOn}
use Rattle.proof_laws.specs.State.{StateValue}
use Rattle.proof_laws.specs.Steps.{with_line, with_learned, with_definition, with_solution, without_lines, with_end}
use Rattle.proof_laws.specs.Refusal.{IsFault, given_in, assignment_of}
use Rattle.proof_laws.specs.declared.line.Line.{Line}
use Rattle.proof_laws.specs.declared.line.Line.TheVariants.{Pol, Rup, Learn, Def, Red, Dom, Sol, Del, Reduce, End}
use Rattle.proof_laws.specs.declared.why.Why.{Why}

-- the first condition of the line that fails is this
abbrev pub IsRefused : ProblemValue → StateValue → Line → Why → Type 0
IsRefused p s line why = IsFault p s line (Some why)

-- what a line makes of a state
abbrev pub Makes : ProblemValue → StateValue → Line → StateValue → Type 0
Makes p s (Pol tokens) t = (c : ConstraintValue) × IsValueOn (given_in s None None) [] tokens (Ok c) × (t ≡ with_line s c)
Makes p s (Rup goal hints) t = t ≡ with_line s goal
Makes p s (Learn goal hints) t = t ≡ with_learned s goal
Makes p s (Def var sum) t = t ≡ with_definition s sum
Makes p s (Red goal w proofs) t = t ≡ with_line s goal
Makes p s (Dom goal w proofs) t = t ≡ with_line s goal
Makes p s (Sol model cut ids) t = t ≡ with_solution s cut (problem_costs p (assignment_of model))
Makes p s (Del ids) t = t ≡ without_lines s ids
Makes p s (Reduce ids) t = t ≡ without_lines s ids
Makes p s (End id) t = t ≡ with_end s

-- no condition of the line fails
abbrev pub IsLegal : ProblemValue → StateValue → Line → Type 0
IsLegal p s line = IsFault p s line None

-- the line is legal, and this is the state after it
pub record IsNext (p : ProblemValue) (s : StateValue) (line : Line) (t : StateValue) : Type 0 where
  pub legal : IsLegal p s line
  pub makes : Makes p s line t
