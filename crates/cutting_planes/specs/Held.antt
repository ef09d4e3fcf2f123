-- The constraint that an operand is; nothing of it has to be believed.
use Rattle.pb_lin.specs.Constraint.{ConstraintValue}
use Rattle.cutting_planes.specs.declared.operand.Holding.{Holding}
use Rattle.cutting_planes.specs.declared.operand.Holding.TheVariants.{Lent, Made}

-- the one that was lent, or the stack's own
abbrev pub held : Holding → ConstraintValue
held (Lent c) = c.now
held (Made c) = c
