use Rattle.std.proofs.Common.{ℕ, ◌<◌, ◌≤◌, get_or}
use Rattle.std.specs.List.{Contains}
use Rattle.watch_prop.specs.Watching.{no_literal, lits_of}
use Rattle.pb_lin.specs.Constraint.{opposite}
use Rattle.watch_prop.proofs.watch_lists.free_place.Given as goal

abbrev pub invariant-loop-place : goal.invariant-loop-place
invariant-loop-place l =
    (k : ℕ) → 2 ≤ k → k < l.place → Contains (lits_of l.trail.steps) (opposite (get_or l.clause k no_literal))
