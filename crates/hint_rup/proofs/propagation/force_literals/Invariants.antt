use Rattle.std.proofs.Common.{◌≡◌, length}
use Rattle.hint_rup.proofs.ForcedLiterals.{forced_of_first}
use Rattle.hint_rup.proofs.propagation.force_literals.Given as goal

abbrev pub invariant-loop-lit : goal.invariant-loop-lit
invariant-loop-lit l = record {
  forced : l.scratch ≡ forced_of_first l.fn.scratch l.line l.lit-index;
  length : length l.scratch ≡ length l.fn.scratch;
}
