use Rattle.std.proofs.Common.{◌≡◌, take}
use Rattle.pb_lin.specs.Constraint.{total}
use Rattle.relaxations.proofs.row_sizes.total_of.Given as goal

abbrev pub invariant-loop-term : goal.invariant-loop-term
invariant-loop-term l = l.sum ≡ total (take l.term-index l.terms)
