-- When a propagator of both kinds of lines is in step with a store and a trail.
use Rattle.pb_lin.specs.LineMap.{LineMap}
use Rattle.clause_prop.specs.Steps.{TrailValue}
use Rattle.watch_prop.specs.Watches.{AreWatches}
use Rattle.watch_prop.specs.Counted.{AreCounters}
use Rattle.watch_prop.specs.declared.watch_prop.WatchProp.{WatchProp}

-- the watches are in step, and the counters are
pub record AreInStep (w : WatchProp) (store : LineMap) (t : TrailValue) : Type 0 where
  pub watches : AreWatches w.watches store t
  pub counters : AreCounters w.counters store t
