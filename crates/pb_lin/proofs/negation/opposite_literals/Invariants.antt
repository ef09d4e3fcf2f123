use Rattle.std.proofs.Common.{◌≡◌, take, map}
use Rattle.pb_lin.specs.Constraint.{opposite}
use Rattle.pb_lin.proofs.negation.opposite_literals.Given as goal

abbrev pub invariant-loop-lit : goal.invariant-loop-lit
invariant-loop-lit l = l.opposites ≡ map opposite (take l.lit-index l.lits)
