use Rattle.std.proofs.Common.{◌≡◌, take}
use Rattle.representatives.proofs.Bounds.{lowered}
use Rattle.representatives.proofs.bounded.negated.Given as goal

abbrev pub invariant-loop-term : goal.invariant-loop-term
invariant-loop-term l = l.wide.items ≡ lowered (take l.term-index l.terms)
