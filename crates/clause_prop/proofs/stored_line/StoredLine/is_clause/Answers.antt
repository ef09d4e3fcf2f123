use Rattle.std.proofs.Common.{◌≡◌, ap, sym, subst, ◌∙◌, refl}
use Rattle.pb_lin.specs.Constraint.{ConstraintValue, AreOnes}
use Rattle.pb_lin.proofs.Ones.{AreOnes-ones}
use Rattle.clause_prop.specs.StoredLine.{constraint_of}
use Rattle.clause_prop.proofs.stored_line.StoredLine.is_clause.Goals as goal

pub returns-in-Clause : goal.returns-in-Clause
returns-in-Clause c = (
  (λ yes. subst (λ (v : ConstraintValue). AreOnes v.terms × (v.degree ≡ 1)) (ap constraint_of (sym c.in-Clause.is) ∙ c.self.view_is) (AreOnes-ones c.in-Clause.field-0.items, refl)),
  (λ both. refl),
)
