use Rattle.std.proofs.Common.{◌≤◌, List, ap, sym, ◌∙◌, subst, refl}
use Rattle.scut_base.specs.LiteralCode.{code_of}
use Rattle.pb_lin.specs.Constraint.{opposite}
use Rattle.clause_prop.specs.declared.step.Step.{Step}
use Rattle.watch_prop.proofs.CounterLaws.{some_same}
use Rattle.watch_prop.specs.Counted.{AreCounters}
use Rattle.watch_prop.specs.Counting.{AreQuiet, list_at, line_at, listed, lowered}
use Rattle.watch_prop.specs.declared.counter_lines.Occurrence.{Occurrence}
use Rattle.watch_prop.proofs.CounterLists.{step_list}
use Rattle.watch_prop.proofs.CounterChanges.{count_fits, kept_counted}
use Rattle.watch_prop.proofs.counters.Counters.count.Goals as goal

pub subtract-low-requires-clause-enough : goal.subtract-low-requires-clause-enough
unfolding AreCounters
subtract-low-requires-clause-enough c = λ j live.
    let w = c.args.self.now in
    let t = c.args.trail.now in
    let is = step_list w.lists w.lists c.falsified.result.now t.steps w.counted c.step_at-step.result c.step_at-step.ensures.value refl c.falsified.ensures in
    subst (λ (l : List Occurrence). listed j l ≤ (line_at w.lines.items j).possible) (sym is)
    (count_fits w.lines.items w.lists _ w.counted w.ends.items w.fresh.items w.done c.requires.in_step.0 t c.step_at-step.result c.step_at-step.ensures.steps c.requires.more c.requires.in_step.1 j live)

pub returns-clause-in_step : goal.returns-clause-in_step
unfolding AreCounters
returns-clause-in_step c = λ store in_step.
    let w = c.args.self.now in
    let t = c.args.trail.now in
    let is = step_list w.lists w.lists c.falsified.result.now t.steps w.counted c.step_at-step.result c.step_at-step.ensures.value refl c.falsified.ensures in
    kept_counted w.lines.items c.subtract-low.new.lines.items w.lists _ w.counted w.ends.items w.fresh.items w.done store t c.step_at-step.result c.step_at-step.ensures.steps c.requires.more c.subtract-low.ensures.len
    (λ j. c.subtract-low.ensures.each j ∙ ap (λ (l : List Occurrence). lowered (line_at w.lines.items j) (listed j l)) is)
    in_step

pub returns-clause-quiet : goal.returns-clause-quiet
returns-clause-quiet c = λ none s found.
    let w = c.args.self.now in
    let same = some_same c.step_at-step.result s _ c.step_at-step.ensures.value found in
    let is = c.falsified.ensures ∙ ap (λ (r : Step). list_at w.lists (code_of (opposite r.lit))) same in
    subst (AreQuiet c.subtract-low.new.lines.items) is (c.subtract-low.ensures.quiet none)
