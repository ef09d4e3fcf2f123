-- Literals.
use Rattle.std.specs.Prelude.{ℕ, Bool, ◌==◌, ◌&&◌}
use Rattle.std.proofs.Math.Bool.{beq}

-- a variable, counted from 1, or its negation
pub record Literal : Type 0 where
  pub var : ℕ
  pub neg : Bool

-- whether both are of one variable and one sign
abbrev pub is_same : Literal → Literal → Bool
is_same l m = l.var == m.var && beq l.neg m.neg
