use Rattle.std.proofs.Common.{◌≡◌}
use Rattle.search_tests.specs.declared.lines.TheConstants.{VARS}
use Rattle.search_tests.proofs.binary.store_clauses.Given as goal

abbrev pub invariant-loop-before : goal.invariant-loop-before
invariant-loop-before g l = l.fixture ≡ VARS
