use Rattle.std.proofs.Common.{◌≡◌, length}
use Rattle.hint_rup.proofs.ForcedLiterals.{forced_of_first}
use Rattle.hint_rup.proofs.propagation.force_terms.Given as goal

abbrev pub invariant-loop-at : goal.invariant-loop-at
invariant-loop-at l = record {
  forced : l.scratch ≡ forced_of_first l.fn.scratch l.line l.at;
  length : length l.scratch ≡ length l.fn.scratch;
}
