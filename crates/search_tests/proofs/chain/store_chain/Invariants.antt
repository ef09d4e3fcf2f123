use Rattle.std.proofs.Common.{◌≡◌}
use Rattle.search_tests.specs.declared.lines.TheConstants.{VARS}
use Rattle.search_tests.proofs.chain.store_chain.Given as goal

abbrev pub invariant-loop-id : goal.invariant-loop-id
invariant-loop-id l = l.fixture ≡ VARS
