-- The numbers so far.
use Rattle.std.proofs.Common.{◌≡◌, ◌<◌, ℕ, length}
use Rattle.relaxations.specs.Telling.{number_at, stands_at}
use Rattle.lower_bounding.specs.Raising.{RisesWhere}
use Rattle.lower_bounding.proofs.raising.raised.Given as goal

abbrev pub invariant-loop-objective : goal.invariant-loop-objective
invariant-loop-objective l = record {
  count : length l.numbers ≡ l.objective;
  each : (i : ℕ) → i < l.objective
      → RisesWhere (stands_at l.stands i) (number_at l.fence i) (number_at l.tops i) (number_at l.numbers i);
}
