use Rattle.std.proofs.Common.{◌≡◌}
use Rattle.search_tests.specs.declared.lines.TheConstants.{VARS}
use Rattle.search_tests.proofs.chain.goes_along_again.Given as goal

abbrev pub invariant-loop-block : goal.invariant-loop-block
invariant-loop-block l = l.fixture ≡ VARS
