use Rattle.std.proofs.Common.{◌≡◌, length, take}
use Rattle.instance_normal.proofs.tight.assigned.Given as goal

abbrev pub invariant-loop-value : goal.invariant-loop-value
invariant-loop-value l = record {
  long : length l.b ≡ length l.values;
  at : l.var ≡ l.value-index;
  done : take l.value-index l.b ≡ take l.value-index l.values;
}
