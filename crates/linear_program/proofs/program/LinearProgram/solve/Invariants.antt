use Rattle.std.proofs.Common.{◌≡◌}
use Rattle.linear_program.proofs.program.LinearProgram.solve.Given as goal

abbrev pub invariant-loop-pivots : goal.invariant-loop-pivots
invariant-loop-pivots l = l.self ≡ l.fn.self
