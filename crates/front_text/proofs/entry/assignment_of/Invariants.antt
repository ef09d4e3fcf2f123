use Rattle.std.proofs.Common.{◌≡◌, take, length}
use Rattle.front_text.proofs.entry.assignment_of.Given as goal

abbrev pub invariant-loop-at : goal.invariant-loop-at
invariant-loop-at l = record {
  size : length l.model ≡ length l.values;
  same : take l.at l.model ≡ take l.at l.values;
}
