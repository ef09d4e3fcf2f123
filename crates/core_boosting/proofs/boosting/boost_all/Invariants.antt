-- The objectives so far.
use Rattle.std.proofs.Common.{◌≡◌, length, Ok}
use Rattle.core_boosting.specs.Boosting.{BoostsFirst, BoostsOn}
use Rattle.core_boosting.proofs.boosting.boost_all.Given as goal

abbrev pub invariant-loop : goal.invariant-loop
invariant-loop g l = let R = g.O.Recorder in record {
  boosts : BoostsOn {T = Unit {0}} (R.seen l.fn.oracle) (R.seen l.oracle) (Ok tt);
  first : BoostsFirst (R.seen l.oracle) l.reforms;
  count : length l.reforms ≡ l.counter;
}
