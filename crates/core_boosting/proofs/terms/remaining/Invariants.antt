-- What is left of the terms so far.
use Rattle.std.proofs.Common.{◌≡◌, take}
use Rattle.core_boosting.specs.Exchanging.{remaining}
use Rattle.core_boosting.proofs.terms.remaining.Given as goal

abbrev pub invariant-loop-term : goal.invariant-loop-term
invariant-loop-term l = l.left ≡ remaining l.lits l.weight (take l.term-index l.terms)
