use Rattle.std.proofs.Common.{◌≡◌, ℕ, List, true, subst}
use Rattle.std.specs.Prelude.{nat_eq}
use Rattle.std.specs.Map.{lookup}
use Rattle.std.specs.FinMap.{remove}
use Rattle.watch_prop.specs.declared.counter_lines.CounterLine.{CounterLine}
use Rattle.watch_prop.specs.Counting.{line_at, list_at, listed}
use Rattle.watch_prop.specs.Counted.{AreCounters}
use Rattle.watch_prop.proofs.CounterStored.{kept_swept}
use Rattle.watch_prop.proofs.counters.Counters.dropped.Goals as goal

pub returns-then-self-len : goal.returns-then-self-len
unfolding AreCounters
returns-then-self-len c = λ lines t in_step.
    let w = c.let_go.new.self in
    kept_swept w.lines.items w.lists c.sweep.new.self (λ id. lookup (nat_eq id) w.slots.entries) w.counted w.ends.items w.fresh.items w.done (remove lines c.args.id) t
    c.sweep.ensures.slots
    (subst (λ (ls : List CounterLine). (code j : ℕ) → (line_at ls j).live ≡ true → listed j (list_at c.sweep.new.self code) ≡ listed j (list_at w.lists code)) c.as_slice.ensures.value c.sweep.ensures.same)
    (c.let_go.ensures lines t in_step)
