use Rattle.std.proofs.Common.{◌≤◌, ◌+◌, ◌-◌, ◌^◌, List, length, get_or, arith, ap, sym, ◌∙◌, subst, refl}
use Rattle.scut_base.specs.LiteralCode.{code_of}
use Rattle.pb_lin.specs.Constraint.{opposite}
use Rattle.watch_prop.specs.Counted.{AreCounters}
use Rattle.watch_prop.specs.Counting.{AreOfSlots, line_at, listed, raised}
use Rattle.watch_prop.specs.declared.counter_lines.Occurrence.{Occurrence}
use Rattle.watch_prop.proofs.CounterLists.{step_list}
use Rattle.watch_prop.proofs.CounterChanges.{uncount_fits, kept_uncounted}
use Rattle.watch_prop.proofs.counters.Counters.uncount.Goals as goal

pub step_at-step-requires : goal.step_at-step-requires
unfolding AreCounters
step_at-step-requires c = let counts = c.requires.in_step.1.counts in omega (arith, counts, c.requires.more)

pub add-requires-clause-slots : goal.add-requires-clause-slots
unfolding AreCounters
add-requires-clause-slots c =
    let w = c.args.self.now in
    let t = c.args.trail.now in
    let is = step_list w.lists w.lists c.falsified.result.now t.steps (w.counted - 1) c.step_at-step.result c.step_at-step.ensures.value refl c.falsified.ensures in
    subst (AreOfSlots (length w.lines.items)) (sym is) (c.requires.in_step.1.occurrences (code_of (opposite (get_or t.steps (w.counted - 1) c.step_at-step.result).lit)))

pub add-requires-clause-small : goal.add-requires-clause-small
unfolding AreCounters
add-requires-clause-small c = λ j live.
    let w = c.args.self.now in
    let t = c.args.trail.now in
    let is = step_list w.lists w.lists c.falsified.result.now t.steps (w.counted - 1) c.step_at-step.result c.step_at-step.ensures.value refl c.falsified.ensures in
    subst (λ (l : List Occurrence). (line_at w.lines.items j).possible + listed j l ≤ 2 ^ 100) (sym is)
    (uncount_fits w.lines.items w.lists _ w.counted (w.counted - 1) w.ends.items w.fresh.items w.done c.requires.in_step.0 t c.step_at-step.result c.step_at-step.ensures.steps (omega (arith, c.requires.more)) c.requires.in_step.1 j live)

pub returns-clause-in_step : goal.returns-clause-in_step
unfolding AreCounters
returns-clause-in_step c = λ store in_step.
    let w = c.args.self.now in
    let t = c.args.trail.now in
    let is = step_list w.lists w.lists c.falsified.result.now t.steps (w.counted - 1) c.step_at-step.result c.step_at-step.ensures.value refl c.falsified.ensures in
    kept_uncounted w.lines.items c.add.new.lines.items w.lists _ w.counted (w.counted - 1) w.ends.items w.fresh.items w.done store t c.step_at-step.result c.step_at-step.ensures.steps (omega (arith, c.requires.more)) (omega (arith, c.requires.more)) c.add.ensures.len
    (λ j. c.add.ensures.each j ∙ ap (λ (l : List Occurrence). raised (line_at w.lines.items j) (listed j l)) is)
    in_step
