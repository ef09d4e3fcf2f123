use Rattle.std.proofs.Common.{set, subst, ℕ, Option, ◌∙◌, sym, arith}
use Rattle.std.specs.Prelude.{nat_eq}
use Rattle.std.specs.Map.{lookup}
use Rattle.std.specs.FinMap.{remove}
use Rattle.watch_prop.specs.declared.counter_lines.CounterLine.{CounterLine}
use Rattle.watch_prop.specs.Counting.{AreKept}
use Rattle.watch_prop.specs.Counted.{AreCounters}
use Rattle.watch_prop.proofs.CounterStored.{kept_dropped, kept_other, update_here, update_none, update_other}
use Rattle.watch_prop.proofs.counters.Counters.let_go.Goals as goal

pub returns-then-slot-len : goal.returns-then-slot-len
unfolding AreCounters
returns-then-slot-len c = λ lines t in_step.
    let w = c.args.self.now in
    let old : ℕ → Option ℕ = λ q. lookup (nat_eq q) w.slots.entries in
    let new : ℕ → Option ℕ = λ q. lookup (nat_eq q) c.remove.new.self.entries in
    subst (λ (l : CounterLine). AreKept (set w.lines.items c.in-Some.slot l) w.lists new w.counted w.ends.items w.fresh.items w.done (remove lines c.args.id) t) (sym c.dead_line.ensures)
    (kept_dropped w.lines.items w.lists old new w.counted w.ends.items w.fresh.items w.done lines t c.args.id c.in-Some.slot
    (sym c.remove.ensures.value ∙ c.in-Some.is) (update_here old new c.args.id _ c.remove.ensures.updates.0) (update_other old new c.args.id _ c.remove.ensures.updates.0) in_step)

pub returns-else-slot-len : goal.returns-else-slot-len
unfolding AreCounters
returns-else-slot-len c = λ lines t in_step. let short = (in_step.slots c.args.id c.in-Some.slot (sym c.remove.ensures.value ∙ c.in-Some.is)).0 in absurd (omega (arith, short, c.len.ensures, c.if-slot-len.false))

pub returns-in_default : goal.returns-in_default
unfolding AreCounters
returns-in_default c = λ lines t in_step.
    let w = c.args.self.now in
    let old : ℕ → Option ℕ = λ q. lookup (nat_eq q) w.slots.entries in
    let new : ℕ → Option ℕ = λ q. lookup (nat_eq q) c.remove.new.self.entries in
    let none = sym c.remove.ensures.value ∙ c.in_default.is in
    kept_other w.lines.items w.lists old new w.counted w.ends.items w.fresh.items w.done lines t c.args.id none (update_none old new c.args.id c.remove.ensures.updates.0 none) in_step
