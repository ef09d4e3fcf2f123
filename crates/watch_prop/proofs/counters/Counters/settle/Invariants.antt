use Rattle.std.proofs.Common.{◌-◌, length}
use Rattle.clause_prop.specs.Propagating.{Extends}
use Rattle.watch_prop.specs.Counted.{AreCounters}
use Rattle.watch_prop.proofs.counters.Counters.settle.Given as goal

abbrev pub invariant-loop-self : goal.invariant-loop-self
invariant-loop-self l = record {
  in_step : AreCounters l.self l.store l.trail;
  extends : Extends l.store l.fn.trail l.trail;
}

abbrev pub decreases-loop-self : goal.decreases-loop-self
decreases-loop-self l = length l.self.fresh.items - l.self.done
