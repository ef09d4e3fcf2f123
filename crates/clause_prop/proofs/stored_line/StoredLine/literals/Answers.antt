use Rattle.std.proofs.Common.{ap, sym, ◌∙◌}
use Rattle.pb_lin.specs.Constraint.{ConstraintValue, literals}
use Rattle.clause_prop.specs.StoredLine.{constraint_of}
use Rattle.clause_prop.proofs.StoredLines.{literals-ones}
use Rattle.clause_prop.proofs.stored_line.StoredLine.literals.Goals as goal

pub returns-in-Clause-clause-value : goal.returns-in-Clause-clause-value
returns-in-Clause-clause-value c =
    c.as_slice.ensures ∙ sym (literals-ones c.in-Clause.lits.items) ∙ ap (λ (v : ConstraintValue). literals v.terms) (ap constraint_of (sym c.in-Clause.is) ∙ c.self.view_is)
