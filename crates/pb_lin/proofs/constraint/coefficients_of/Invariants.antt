use Rattle.std.proofs.Common.{◌≡◌, take, map}
use Rattle.pb_lin.proofs.constraint.coefficients_of.Given as goal

abbrev pub invariant-loop-term : goal.invariant-loop-term
invariant-loop-term l = l.coefs ≡ map (λ t. t.1) (take l.term-index l.terms)
