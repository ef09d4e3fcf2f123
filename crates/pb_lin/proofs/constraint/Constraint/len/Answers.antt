use Rattle.std.proofs.Common.{ap, length, sym, ◌∙◌}
use Rattle.pb_lin.proofs.Terms.{length-terms_of}
use Rattle.pb_lin.proofs.constraint.Constraint.len.Goals as goal

pub returns-clause-value : goal.returns-clause-value
returns-clause-value c = rw (← c.self.view_is) (ap length c.literals.ensures ∙ sym (length-terms_of c.self.inside.parts.lits c.self.inside.parts.coefs))
