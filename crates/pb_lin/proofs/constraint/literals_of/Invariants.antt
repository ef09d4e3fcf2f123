use Rattle.std.proofs.Common.{◌≡◌, take}
use Rattle.pb_lin.specs.Constraint.{literals}
use Rattle.pb_lin.proofs.constraint.literals_of.Given as goal

abbrev pub invariant-loop-term : goal.invariant-loop-term
invariant-loop-term l = l.lits ≡ literals (take l.term-index l.terms)
