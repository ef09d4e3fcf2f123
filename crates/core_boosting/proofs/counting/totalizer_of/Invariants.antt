-- The terms of the literals so far.
use Rattle.std.proofs.Common.{◌≡◌, take}
use Rattle.pb_lin.specs.Constraint.{ones}
use Rattle.core_boosting.proofs.counting.totalizer_of.Given as goal

abbrev pub invariant-loop-lit : goal.invariant-loop-lit
invariant-loop-lit l = l.terms ≡ ones (take l.lit-index l.lits)
