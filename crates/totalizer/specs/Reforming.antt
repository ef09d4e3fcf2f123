-- An objective in other terms.
use Rattle.std.specs.Prelude.{◌≡◌, ◌^◌, Bool, List, All, Some, ℕ, ℤ, pos, ◌+ℤ◌, ◌-ℤ◌, ◌≤ℤ◌, ◌<ℤ◌}
use Rattle.scut_base.specs.Literal.{Literal}
use Rattle.pb_lin.specs.Constraint.{ConstraintValue, Holds, IsVariable, total, value}
use Rattle.pb_lin.specs.CostRow.{CostRowValue, row_cost}
use Rattle.pb_lin.specs.Problem.{ProblemValue}
use Rattle.proof_laws.specs.State.{StateValue}
use Rattle.proof_laws.specs.Refusal.{line_or_none}
use Rattle.proof_laws.specs.declared.line.Line.{Line}
use Rattle.sum_outputs.specs.Totals.{AreWeights}
use Rattle.sum_outputs.specs.Adding.{KeptHold}
use Rattle.totalizer.specs.Meaning.{IsOwnOrNone}
use Rattle.totalizer.specs.declared.reform.Reform.{Reform}

-- The line is the normal form of "the row minus the terms' sum is at least the offset": its left side exceeds its
-- degree by as much, everywhere.
abbrev pub IsLowerLine : CostRowValue → ℤ → List (Literal × ℕ) → ConstraintValue → Type 0
IsLowerLine row offset terms c = (x : List Bool)
    → pos (value x c.terms) -ℤ pos c.degree ≡ row_cost x row -ℤ (offset +ℤ pos (value x terms))

-- The objective is at least the offset with the terms' sum, as the line says; and wherever the rows and kept clauses
-- hold it is no more.
pub record IsReformOf (p : ProblemValue) (lines : List Line) (s : StateValue)
    (row : CostRowValue) (r : Reform) : Type 0 where
  pub weights : AreWeights r.terms
  pub variables : All (λ t. IsVariable s.vars t.0.var) r.terms
  pub offset : row.offset ≤ℤ r.offset
  pub small : (r.offset +ℤ pos (total r.terms)) <ℤ pos (2 ^ 63)
  pub own : IsOwnOrNone p lines s r.lower_line
  pub lower : (c : ConstraintValue) × (line_or_none s.live r.lower_line ≡ Some c) × IsLowerLine row r.offset r.terms c
  pub upper : (x : List Bool) → All (Holds x) p.rows → KeptHold p lines s x
      → row_cost x row ≤ℤ (r.offset +ℤ pos (value x r.terms))

-- an objective in its own terms, for which no line is named
abbrev pub IsOwnReform : CostRowValue → Reform → Type 0
IsOwnReform row r = (r.offset ≡ row.offset) × (r.terms ≡ row.terms) × (r.lower_line ≡ 0)
