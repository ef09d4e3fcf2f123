use Rattle.std.proofs.Common.{arith, get_or, subst}
use Rattle.std.specs.List.{All}
use Rattle.std.specs.Option.{IfNone}
use Rattle.std.proofs.lemmas.List.{take_all}
use Rattle.std.proofs.lemmas.Option.{slice_get-get_or}
use Rattle.watch_prop.specs.Counting.{IsGone, line_at, no_occurrence}
use Rattle.clause_prop.proofs.Extensions.{extends_none, extends_twice}
use Rattle.watch_prop.proofs.CounterLists.{all_more}
use Rattle.watch_prop.proofs.CounterVisits.{over_extended, gone_extended}
use Rattle.watch_prop.proofs.counter_lines.visit_list.Goals as goal

pub loop-entry-init : goal.loop-entry-init
loop-entry-init c = record { gone = λ k d less. absurd (omega (arith, less)); extends = extends_none c.args.store.now c.args.trail.now }

pub visit_line-requires-clause-over : goal.visit_line-requires-clause-over
visit_line-requires-clause-over c = over_extended c.args.store.now c.args.trail.now c.loop-entry.trail (line_at c.args.lines.now (get_or c.args.list.now c.loop-entry.entry-index no_occurrence).slot) c.loop-entry.invariant.extends (c.requires.over (get_or c.args.list.now c.loop-entry.entry-index no_occurrence).slot)

pub returns-in-Some-clause-extends : goal.returns-in-Some-clause-extends
returns-in-Some-clause-extends c = extends_twice c.args.store.now c.args.trail.now c.loop-entry.trail c.visit_line.new.trail c.loop-entry.invariant.extends c.visit_line.ensures.extends

pub loop-entry-preserved : goal.loop-entry-preserved
loop-entry-preserved c = record {
  gone = all_more
      (λ e. IsGone c.args.store.now c.loop-entry.trail (line_at c.args.lines.now e.slot))
      (λ e. IsGone c.args.store.now c.visit_line.new.trail (line_at c.args.lines.now e.slot))
      c.args.list.now c.loop-entry.entry-index (get_or c.args.list.now c.loop-entry.entry-index no_occurrence)
      (λ e gone. gone_extended c.args.store.now c.loop-entry.trail c.visit_line.new.trail (line_at c.args.lines.now e.slot) c.visit_line.ensures.extends gone)
      c.loop-entry.invariant.gone
      (slice_get-get_or c.args.list.now c.loop-entry.entry-index no_occurrence c.loop-entry-test.true)
      (subst (λ r. IfNone r (IsGone c.args.store.now c.visit_line.new.trail (line_at c.args.lines.now (get_or c.args.list.now c.loop-entry.entry-index no_occurrence).slot))) c.in_default.is c.visit_line.ensures.gone);
  extends = extends_twice c.args.store.now c.args.trail.now c.loop-entry.trail c.visit_line.new.trail c.loop-entry.invariant.extends c.visit_line.ensures.extends;
}

pub returns-clause-gone : goal.returns-clause-gone
returns-clause-gone c = subst (λ es. All (λ e. IsGone c.args.store.now c.loop-entry.trail (line_at c.args.lines.now e.slot)) es) (take_all c.loop-entry.entry-index c.args.list.now c.loop-entry-test.false) c.loop-entry.invariant.gone
