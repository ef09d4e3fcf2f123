use Rattle.std.proofs.Common.{ℕ, ◌-◌, ◌<◌, ◌≤◌, length, get_or}
use Rattle.cutting_planes.specs.Runs.{IsWeakening}
use Rattle.cutting_planes.specs.declared.token.PolToken.{PolToken}
use Rattle.cutting_planes.proofs.steps.weakening_run.Given as goal

abbrev pub invariant-loop-run : goal.invariant-loop-run
invariant-loop-run l = record {
  bound : l.run ≤ length l.tokens;
  weakening : (k : ℕ) (d : PolToken) → k < l.run → IsWeakening (get_or l.tokens k d);
}

abbrev pub decreases-loop-run : goal.decreases-loop-run
decreases-loop-run l = length l.tokens - l.run
