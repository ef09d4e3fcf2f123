use Rattle.pb_lin.proofs.Terms.{clause_of_none}
use Rattle.pb_lin.proofs.constraint.Constraint.is_clause.Goals as goal

pub returns-then-is_ones : goal.returns-then-is_ones
returns-then-is_ones c = rw (c.degree.ensures, ← c.self.view_is) (clause_of_none c.self.inside.parts.lits c.self.inside.parts.coefs c.self.inside.parts.degree (c.is_ones.ensures.0 c.if-is_ones.true))
