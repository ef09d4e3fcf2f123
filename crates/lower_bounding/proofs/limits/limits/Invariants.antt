-- The limits so far.
use Rattle.std.proofs.Common.{◌≡◌, ◌<◌, ℕ, length}
use Rattle.relaxations.specs.Telling.{number_at}
use Rattle.lower_bounding.specs.Raising.{IsLimit}
use Rattle.lower_bounding.proofs.limits.limits.Given as goal

abbrev pub invariant-loop-objective : goal.invariant-loop-objective
invariant-loop-objective l = record {
  count : length l.limits ≡ l.objective;
  each : (i : ℕ) → i < l.objective → IsLimit (number_at l.fence i) (number_at l.tops i) (number_at l.limits i);
}
