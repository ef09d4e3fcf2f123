use Rattle.search_tests.proofs.Rising.{AreUpTo}
use Rattle.search_tests.proofs.solver.assumptions.Given as goal

abbrev pub invariant-loop-code : goal.invariant-loop-code
invariant-loop-code l = AreUpTo l.vars l.last l.lits.items
