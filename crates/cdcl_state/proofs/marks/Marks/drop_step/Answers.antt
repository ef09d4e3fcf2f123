use Rattle.std.specs.Prelude.{[], false, List, reverse, slice_set}
use Rattle.std.proofs.Common.{sym, subst, refl, arith}
use Rattle.hint_rup.specs.declared.hint.Hint.{Hint}
use Rattle.cdcl_state.specs.declared.reach.Reach.TheVariants.{Level}
use Rattle.cdcl_state.specs.Walking.{IsClosing}
use Rattle.cdcl_state.proofs.Closing.{below_top, closing_drop, pushed_first, reason_forces, reason_line}
use Rattle.cdcl_state.proofs.Marking.{walk_unmarked}
use Rattle.cdcl_state.proofs.marks.Marks.drop_step.Goals as goal

pub index-requires : goal.index-requires
index-requires c = omega (arith, c.requires.within, c.requires.walk.all.long, c.args.self.now.on.ok.0)

pub unreachable-requires : goal.unreachable-requires
unreachable-requires c =
    reason_line c.args.store.now c.args.trail.now c.args.place c.step_at-step.result c.requires.search c.step_at-step.ensures.value (c.if-not-is_forced_below.ensures refl).1 c.in_default.ensures

pub index_mut-requires : goal.index_mut-requires
index_mut-requires c = omega (arith, c.requires.within, (c.in_ok-mark_all.ensures).walk.all.long, c.mark_all.new.self.on.ok.0)

pub returns-clause-walk : goal.returns-clause-walk
returns-clause-walk c =
    walk_unmarked c.args.trail.now (Level c.args.top) c.mark_all.new.self.on.items c.mark_all.new.self.seen.items c.mark_all.new.self.places c.mark_all.new.self.least c.args.place (c.in_ok-mark_all.ensures).walk

pub returns-clause-closing : goal.returns-clause-closing
returns-clause-closing c end rest =
    let t = c.args.trail.now in
    let store = c.args.store.now in
    let s = c.step_at-step.result in
    let at = c.step_at-step.ensures.value in
    let told = c.if-not-is_forced_below.ensures refl in
    let there = c.in-Some.ensures in
    let forces = reason_forces store t c.args.place s c.in-Some.line.now c.requires.search at told.1 there in
    let free = below_top store t c.args.top c.args.place s c.requires.search c.requires.top at told.0 in
    let done = c.in_ok-mark_all.ensures in
    subst (λ (hs : List Hint). IsClosing store t (Level c.args.top) (slice_set c.mark_all.new.self.on.items c.args.place false) end [] hs) (sym (pushed_first c.args.hints.now.items c.push.new.self.items s.reason (c.in_ok-push.ensures).items))
    (closing_drop store t (Level c.args.top) c.requires.lines c.requires.search c.args.self.now.on.items c.mark_all.new.self.on.items c.args.place end [] (reverse c.args.hints.now.items) s s.reason c.in-Some.line.now at there forces done.more done.marked free rest)

pub returns-in_err-mark_all-clause-least : goal.returns-in_err-mark_all-clause-least
returns-in_err-mark_all-clause-least c =
    let told = c.if-not-is_forced_below.ensures refl in
    c.mark_all.ensures.stays (below_top c.args.store.now c.args.trail.now c.args.top c.args.place c.step_at-step.result c.requires.search c.requires.top c.step_at-step.ensures.value told.0)

pub returns-in_err-push-clause-walk : goal.returns-in_err-push-clause-walk
returns-in_err-push-clause-walk c =
    walk_unmarked c.args.trail.now (Level c.args.top) c.mark_all.new.self.on.items c.mark_all.new.self.seen.items c.mark_all.new.self.places c.mark_all.new.self.least c.args.place (c.in_ok-mark_all.ensures).walk

pub returns-in_err-push-clause-least : goal.returns-in_err-push-clause-least
returns-in_err-push-clause-least c =
    let told = c.if-not-is_forced_below.ensures refl in
    (c.in_ok-mark_all.ensures).stays (below_top c.args.store.now c.args.trail.now c.args.top c.args.place c.step_at-step.result c.requires.search c.requires.top c.step_at-step.ensures.value told.0)

pub returns-clause-least : goal.returns-clause-least
returns-clause-least c =
    let told = c.if-not-is_forced_below.ensures refl in
    (c.in_ok-mark_all.ensures).stays (below_top c.args.store.now c.args.trail.now c.args.top c.args.place c.step_at-step.result c.requires.search c.requires.top c.step_at-step.ensures.value told.0)
