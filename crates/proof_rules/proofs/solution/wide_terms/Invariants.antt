use Rattle.std.proofs.Common.{◌≡◌, take}
use Rattle.proof_rules.proofs.solution.wide_terms.Given as goal

abbrev pub invariant-loop-term : goal.invariant-loop-term
invariant-loop-term l = l.wide.items ≡ take l.term-index l.terms
