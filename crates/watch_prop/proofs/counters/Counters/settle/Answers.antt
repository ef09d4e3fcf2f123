use Rattle.std.proofs.Common.{◌≡◌, ◌+◌, ℕ, set, ◌∙◌, ◌<◌, length, arith, ap, sym, subst}
use Rattle.std.specs.Option.{IfNone}
use Rattle.std.specs.Prelude.{nat_eq}
use Rattle.std.specs.Map.{lookup}
use Rattle.std.proofs.lemmas.List.{get_or_default}
use Rattle.watch_prop.specs.declared.counter_lines.Fresh.{Fresh}
use Rattle.watch_prop.specs.Counted.{AreCounters}
use Rattle.watch_prop.specs.Counting.{AreKept, IsGone, IsOver, fresh_at, line_at, no_fresh, no_line}
use Rattle.clause_prop.proofs.Extensions.{extends_none, extends_twice}
use Rattle.watch_prop.proofs.CounterLaws.{counters_extended, counters_over}
use Rattle.watch_prop.proofs.CounterLooks.{kept_visited}
use Rattle.watch_prop.proofs.counters.Counters.settle.Goals as goal

pub loop-self-init : goal.loop-self-init
loop-self-init c = record { in_step = c.requires.in_step; extends = extends_none c.args.store.now c.args.trail.now }

pub visit_line-requires-clause-over : goal.visit_line-requires-clause-over
unfolding AreCounters
visit_line-requires-clause-over c =
    let w = c.loop-self.self in
    let slot = c.loop-self.invariant.in_step.of_slots w.done (omega (arith, c.loop-self-test.true, c.len.ensures)) in
    let own = c.index.ensures ∙ get_or_default w.fresh.items w.done c.index.result.now no_fresh (omega (arith, c.loop-self-test.true, c.len.ensures)) in
    let line = c.index-in-loop-self.ensures ∙ get_or_default w.lines.items c.index.result.now.slot c.index-in-loop-self.result.now no_line (subst (λ (f : Fresh). f.slot < length w.lines.items) (sym own) slot) in
    subst (IsOver c.args.store.now c.loop-self.trail) (sym line) (counters_over w c.args.store.now c.loop-self.trail c.len-steps.ensures.steps c.loop-self.invariant.in_step c.index.result.now.slot)

pub returns-in-Some-clause-in_step : goal.returns-in-Some-clause-in_step
returns-in-Some-clause-in_step c = counters_extended c.loop-self.self c.args.store.now c.args.store.now c.loop-self.trail c.visit_line.new.trail c.visit_line.ensures.extends c.loop-self.invariant.in_step

pub returns-in-Some-clause-extends : goal.returns-in-Some-clause-extends
returns-in-Some-clause-extends c = extends_twice c.args.store.now c.args.trail.now c.loop-self.trail c.visit_line.new.trail c.loop-self.invariant.extends c.visit_line.ensures.extends

pub loop-self-preserved : goal.loop-self-preserved
unfolding AreCounters
loop-self-preserved c =
    let w = c.loop-self.self in
    let store = c.args.store.now in
    let new = c.visit_line.new.trail in
    let short : w.done < length w.fresh.items = omega (arith, c.loop-self-test.true, c.len.ensures) in
    let own = c.index.ensures ∙ get_or_default w.fresh.items w.done c.index.result.now no_fresh short in
    let slot = c.loop-self.invariant.in_step.of_slots w.done short in
    let line = c.index-in-loop-self.ensures ∙ get_or_default w.lines.items c.index.result.now.slot c.index-in-loop-self.result.now no_line (subst (λ (f : Fresh). f.slot < length w.lines.items) (sym own) slot) in
    let went = subst (λ r. IfNone r (IsGone store new c.index-in-loop-self.result.now)) c.in_default.is c.visit_line.ensures.gone in
    let gone = subst (IsGone store new) (line ∙ ap (λ (f : Fresh). line_at w.lines.items f.slot) own) went in
    record {
      in_step =
          let longer = counters_extended w store store c.loop-self.trail new c.visit_line.ensures.extends c.loop-self.invariant.in_step in
          let next : Fresh = record { slot = (fresh_at w.fresh.items w.done).slot; end = length new.steps } in
          let put : Fresh = record { slot = c.index.result.now.slot; end = c.len-in-loop-self.result } in
          let is : next ≡ put = ap (λ (f : Fresh). record f { end = length new.steps }) (sym own) ∙ ap (λ (n : ℕ). record c.index.result.now { end = n }) (sym c.len-in-loop-self.ensures.value) in
          subst (λ (f : Fresh). AreKept w.lines.items w.lists (λ id. lookup (nat_eq id) w.slots.entries) w.counted w.ends.items (set w.fresh.items w.done f) (w.done + 1) store new) is
          (kept_visited w.lines.items w.lists (λ id. lookup (nat_eq id) w.slots.entries) w.counted w.ends.items w.fresh.items w.done store new c.len-in-loop-self.ensures.steps short gone longer);
      extends = extends_twice store c.args.trail.now c.loop-self.trail new c.loop-self.invariant.extends c.visit_line.ensures.extends;
    }
