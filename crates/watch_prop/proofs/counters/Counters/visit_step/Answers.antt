use Rattle.std.proofs.Common.{◌≡◌, ◌∙◌, ℕ, List, length, get_or, inl, ap, sym, subst, refl}
use Rattle.scut_base.specs.LiteralCode.{code_of}
use Rattle.std.specs.Prelude.{All}
use Rattle.std.specs.Option.{IfNone}
use Rattle.pb_lin.specs.Constraint.{opposite}
use Rattle.clause_prop.specs.declared.step.Step.{Step}
use Rattle.watch_prop.specs.declared.counter_lines.CounterLine.{CounterLine}
use Rattle.watch_prop.specs.declared.counter_lines.Occurrence.{Occurrence}
use Rattle.watch_prop.specs.Counting.{AreOfSlots, IsGone, IsOver, line_at, list_at}
use Rattle.watch_prop.specs.Counted.{AreCounters}
use Rattle.clause_prop.proofs.Extensions.{extends_none}
use Rattle.watch_prop.proofs.CounterLists.{step_list}
use Rattle.watch_prop.proofs.CounterLaws.{counters_over, if_none, some_same, step_extended}
use Rattle.watch_prop.proofs.counters.Counters.visit_step.Goals as goal

pub returns-then-not-low-clause-gone : goal.returns-then-not-low-clause-gone
returns-then-not-low-clause-gone c = λ s found k d short live line there. inl (c.requires.quiet c.if-not-low.true s found k d short live)

pub returns-then-not-low-clause-extends : goal.returns-then-not-low-clause-extends
returns-then-not-low-clause-extends c = extends_none c.args.store.now c.args.trail.now

pub visit_list-requires-clause-slots : goal.visit_list-requires-clause-slots
unfolding AreCounters
visit_list-requires-clause-slots c =
    let w = c.args.self.now in
    let t = c.args.trail.now in
    let is = step_list w.lists w.lists c.falsified-list.result.now t.steps c.args.place c.step_at.result c.step_at.ensures.value refl c.falsified-list.ensures in
    subst (λ (ls : List CounterLine). AreOfSlots (length ls) c.falsified-list.result.now) (sym c.as_slice.ensures.value)
    (subst (AreOfSlots (length w.lines.items)) (sym is) (c.requires.in_step.occurrences (code_of (opposite (get_or t.steps c.args.place c.step_at.result).lit))))

pub visit_list-requires-clause-over : goal.visit_list-requires-clause-over
visit_list-requires-clause-over c =
    subst (λ (ls : List CounterLine). (j : ℕ) → IsOver c.args.store.now c.args.trail.now (line_at ls j)) (sym c.as_slice.ensures.value)
    (counters_over c.args.self.now c.args.store.now c.args.trail.now c.step_at.ensures.steps c.requires.in_step)

pub returns-clause-gone : goal.returns-clause-gone
returns-clause-gone c = if_none c.visit_list.result _ (λ e s found.
    let w = c.args.self.now in
    let store = c.args.store.now in
    let new = c.visit_list.new.trail in
    let same : c.step_at.result ≡ s = some_same c.step_at.result s _ (step_extended store c.args.trail.now new c.args.place c.step_at.result c.visit_list.ensures.extends c.step_at.ensures.value) found in
    let is = c.falsified-list.ensures ∙ ap (λ (r : Step). list_at w.lists (code_of (opposite r.lit))) same in
    let went = subst (λ r. IfNone r (All (λ e. IsGone store new (line_at c.as_slice.result.now e.slot)) c.falsified-list.result.now)) e c.visit_list.ensures.gone in
    let lines_went = subst (λ (ls : List CounterLine). All (λ e. IsGone store new (line_at ls e.slot)) c.falsified-list.result.now) c.as_slice.ensures.value went in
    subst (λ (es : List Occurrence). All (λ e. IsGone store new (line_at w.lines.items e.slot)) es) is lines_went)
