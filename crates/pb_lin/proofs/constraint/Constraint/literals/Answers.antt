use Rattle.std.proofs.Common.{sym, ◌∙◌}
use Rattle.pb_lin.proofs.Terms.{literals-terms_of}
use Rattle.pb_lin.proofs.constraint.Constraint.literals.Goals as goal

pub returns-clause-value : goal.returns-clause-value
returns-clause-value c = rw (← c.self.view_is) (c.literals.ensures ∙ sym (literals-terms_of c.self.inside.parts.lits c.self.inside.parts.coefs))
