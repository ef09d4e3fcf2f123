use Rattle.std.proofs.Common.{◌≡◌, take}
use Rattle.pb_lin.specs.Constraint.{total}
use Rattle.cutting_planes.proofs.wide.WideConstraint.size.Given as goal

abbrev pub invariant-loop-term : goal.invariant-loop-term
invariant-loop-term l = l.total ≡ total (take l.term-index l.term-items)
