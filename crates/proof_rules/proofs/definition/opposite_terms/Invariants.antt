use Rattle.std.proofs.Common.{◌≡◌, take}
use Rattle.pb_lin.specs.Constraint.{opposite_terms}
use Rattle.proof_rules.proofs.definition.opposite_terms.Given as goal

abbrev pub invariant-loop-at : goal.invariant-loop-at
invariant-loop-at l = l.terms ≡ opposite_terms (take l.at l.sum.terms)
