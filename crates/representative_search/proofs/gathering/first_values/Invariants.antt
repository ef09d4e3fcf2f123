use Rattle.std.proofs.Common.{◌≡◌, length, take}
use Rattle.representative_search.proofs.gathering.first_values.Given as goal

abbrev pub invariant-loop-value : goal.invariant-loop-value
invariant-loop-value l = record {
  long : length l.first ≡ l.vars;
  at : l.var ≡ l.value-index;
  done : take l.value-index l.first ≡ take l.value-index l.values;
}
