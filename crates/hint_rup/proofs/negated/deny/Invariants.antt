use Rattle.std.proofs.Common.{◌≡◌, length}
use Rattle.pb_lin.specs.Constraint.{negation}
use Rattle.hint_rup.proofs.ForcedLiterals.{forced_of_first}
use Rattle.hint_rup.proofs.negated.deny.Given as goal

abbrev pub invariant-loop-lit : goal.invariant-loop-lit
invariant-loop-lit l = record {
  forced : l.scratch ≡ forced_of_first l.fn.scratch (negation l.clause) l.lit-index;
  length : length l.scratch ≡ length l.fn.scratch;
}
