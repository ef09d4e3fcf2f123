use Rattle.std.proofs.Common.{ℕ, ◌<◌, ◌≤◌, ◌-◌, get_or, length}
use Rattle.std.specs.List.{Contains}
use Rattle.watch_prop.specs.Watching.{lits_of, no_entry}
use Rattle.watch_prop.proofs.watch_lists.skip_true.Given as goal

abbrev pub invariant-loop-at : goal.invariant-loop-at
invariant-loop-at l = record {
  after : l.from ≤ l.at;
  held : (k : ℕ) → l.from ≤ k → k < l.at → (k < length l.list) × Contains (lits_of l.trail.steps) (get_or l.list k no_entry).blocker;
}

abbrev pub decreases-loop-at : goal.decreases-loop-at
decreases-loop-at l = length l.list - l.at
