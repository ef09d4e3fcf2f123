-- The terms so far.
use Rattle.std.proofs.Common.{◌≡◌, take}
use Rattle.sum_outputs.proofs.definition.wide_terms.Given as goal

abbrev pub invariant-loop-term : goal.invariant-loop-term
invariant-loop-term l = l.wide ≡ take l.term-index l.terms
