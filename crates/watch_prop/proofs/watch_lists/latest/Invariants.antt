use Rattle.std.proofs.Common.{◌<◌, ◌≤◌, length}
use Rattle.watch_prop.proofs.watch_lists.latest.Given as goal

abbrev pub invariant-loop-place : goal.invariant-loop-place
invariant-loop-place l = record {
  from : l.front ≤ l.best;
  within : l.best < length l.clause;
  next : l.front ≤ l.place;
}
