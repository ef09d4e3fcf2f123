use Rattle.std.proofs.Common.{◌-◌}
use Rattle.pb_lin.specs.LineMap.{LineMap}
use Rattle.watch_prop.specs.Counted.{AreCounters, IsOnlyCounted}
use Rattle.watch_prop.proofs.counters.Counters.count_to.Given as goal

abbrev pub invariant-loop-self : goal.invariant-loop-self
invariant-loop-self l = record {
  in_step : (store : LineMap) → AreCounters l.fn.self store l.trail → AreCounters l.self store l.trail;
  others : IsOnlyCounted l.fn.self l.self;
}

abbrev pub decreases-loop-self : goal.decreases-loop-self
decreases-loop-self l = l.count - l.self.counted
