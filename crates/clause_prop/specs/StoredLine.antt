-- The constraint that a stored line is; nothing of it has to be believed.
use Rattle.pb_lin.specs.Constraint.{ConstraintValue, ones}
use Rattle.clause_prop.specs.declared.stored_line.Kind.{Kind}
use Rattle.clause_prop.specs.declared.stored_line.Kind.TheVariants.{Clause, Other}

-- the clause of the literals, or the constraint as it is
abbrev pub constraint_of : Kind → ConstraintValue
constraint_of (Clause lits) = record { terms = ones lits.items; degree = 1 }
constraint_of (Other line) = line.value
