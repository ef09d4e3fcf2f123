-- The shape of a linear program, and of what is answered about it.
use Rattle.std.specs.Prelude.{◌≡◌, ◌≤◌, ℕ, length}
use Rattle.linear_program.specs.declared.solving.Answer.{Answer}
use Rattle.linear_program.specs.declared.solving.Answer.TheVariants.{Infeasible, Optimal, Above, Unknown}
use Rattle.linear_program.specs.declared.solving.Solved.{Solved}

-- how many columns and rows there are
pub record Shape : Type 0 where
  pub columns : ℕ
  pub rows : ℕ

-- a multiplier for each row, or a value for each column
abbrev pub IsShapedFor : Shape → Answer → Type 0
IsShapedFor shape (Infeasible multipliers) = length multipliers.items ≡ shape.rows
IsShapedFor shape (Optimal values) = length values.items ≡ shape.columns
IsShapedFor shape Above = Unit {0}
IsShapedFor shape Unknown = Unit {0}

-- an answer for this shape, within so many pivots
pub record IsSolvedWithin (shape : Shape) (budget : ℕ) (solved : Solved) : Type 0 where
  pub pivots : solved.pivots ≤ budget
  pub shaped : IsShapedFor shape solved.answer
