-- The opposites of the literals so far.
use Rattle.std.proofs.Common.{◌≡◌, map, take}
use Rattle.pb_lin.specs.Constraint.{literals, opposite}
use Rattle.core_boosting.proofs.cores.denials.Given as goal

abbrev pub invariant-loop-term : goal.invariant-loop-term
invariant-loop-term l = l.lits ≡ map opposite (literals (take l.term-index l.terms))
