use Rattle.std.proofs.Common.{◌≡◌, take}
use Rattle.pb_lin.specs.Constraint.{literals}
use Rattle.cutting_planes.proofs.operand.Operand.to_literals.Given as goal

abbrev pub invariant-loop-at : goal.invariant-loop-at
invariant-loop-at l = l.literals.items ≡ literals (take l.at l.self.terms)
