-- The output of a node of one term.
use Rattle.std.specs.Prelude.{ℕ}
use Rattle.scut_base.specs.Literal.{Literal}
use Rattle.sum_outputs.specs.declared.sum_output.SumOutput.{SumOutput}

-- the literal stands for its weight, and has no line
abbrev pub leaf_output : Literal × ℕ → SumOutput
leaf_output t = record { sum = t.1; from = 1; lit = t.0; lower = 0; upper = 0 }
