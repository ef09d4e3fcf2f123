use Rattle.pb_lin.proofs.Terms.{terms_of-ones, terms_of-both}
use Rattle.pb_lin.proofs.constraint.stored_coefficients.Goals as goal

pub returns-then-are_ones-clause-value : goal.returns-then-are_ones-clause-value
returns-then-are_ones-clause-value c = rw c.new.ensures (terms_of-ones c.args.terms.now (c.are_ones.ensures.0 c.if-are_ones.true))

pub returns-clause-value : goal.returns-clause-value
returns-clause-value c = rw c.in_ok-coefs.ensures (terms_of-both c.args.terms.now)
