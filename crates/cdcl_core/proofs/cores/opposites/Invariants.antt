use Rattle.std.proofs.Common.{◌≡◌, take, map}
use Rattle.pb_lin.specs.Constraint.{opposite}
use Rattle.cdcl_core.proofs.cores.opposites.Given as goal

abbrev pub invariant-loop-lit : goal.invariant-loop-lit
invariant-loop-lit l = l.result ≡ map opposite (take l.lit-index l.lits)
