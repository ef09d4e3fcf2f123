use Rattle.std.proofs.Common.{◌≡◌, take, map}
use Rattle.pb_lin.specs.Constraint.{opposite}
use Rattle.proof_rules.proofs.solution.opposites.Given as goal

abbrev pub invariant-loop-literal : goal.invariant-loop-literal
invariant-loop-literal l = l.opposites.items ≡ map opposite (take l.literal-index l.literals)
