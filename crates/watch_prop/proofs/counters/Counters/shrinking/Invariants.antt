use Rattle.std.proofs.Common.{◌-◌, ◌<◌, ◌≤◌, ℕ, length, get_or}
use Rattle.watch_prop.specs.Counting.{fresh_at}
use Rattle.watch_prop.specs.Counted.{AreCounters}
use Rattle.watch_prop.proofs.counters.Counters.shrinking.Given as goal

abbrev pub invariant-loop-self : goal.invariant-loop-self
invariant-loop-self l = record {
  in_step : AreCounters l.self l.store l.trail;
  ends : (k : ℕ) → k < length l.self.ends.items → get_or l.self.ends.items k 0 ≤ l.keep;
  late : (k : ℕ) → k < l.self.done → (fresh_at l.self.fresh.items k).end ≤ l.keep;
}

abbrev pub decreases-loop-self : goal.decreases-loop-self
decreases-loop-self l = l.self.counted - l.keep
