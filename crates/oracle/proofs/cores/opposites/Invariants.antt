use Rattle.std.proofs.Common.{◌≡◌, map, take}
use Rattle.pb_lin.specs.Constraint.{opposite}
use Rattle.oracle.proofs.cores.opposites.Given as goal

abbrev pub invariant-loop-lit : goal.invariant-loop-lit
invariant-loop-lit l = l.others ≡ map opposite (take l.lit-index l.lits)
