use Rattle.std.proofs.Common.{◌≡◌, take}
use Rattle.representatives.specs.Bounded.{false_literals}
use Rattle.representatives.proofs.bounded.false_literals.Given as goal

abbrev pub invariant-loop-value : goal.invariant-loop-value
invariant-loop-value l = record {
  at : l.var ≡ l.value-index;
  done : l.lits ≡ false_literals 1 (take l.value-index l.values);
}
