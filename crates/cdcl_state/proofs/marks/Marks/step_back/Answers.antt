use Rattle.std.specs.Prelude.{◌≡◌, ◌+◌, true, false, List, reverse, refl}
use Rattle.std.proofs.Common.{◌∙◌, sym, ap, subst, arith}
use Rattle.std.proofs.lemmas.Option.{same_Some}
use Rattle.hint_rup.specs.declared.hint.Hint.{Hint}
use Rattle.cdcl_state.specs.Walking.{IsClosing, is_resolved}
use Rattle.cdcl_state.proofs.Closing.{closing_step, closing_skip, has_reason, pushed_first, reason_forces, reason_line}
use Rattle.cdcl_state.proofs.Marking.{mark_read}
use Rattle.cdcl_state.proofs.marks.Marks.step_back.Goals as goal

pub unreachable-requires : goal.unreachable-requires
unreachable-requires c =
    let s = c.step_at-step.result in
    let at = c.step_at-step.ensures.value in
    let resolved : is_resolved c.args.reach s ≡ true = sym c.if-not-resolves.ensures in
    let reason = has_reason c.args.store.now c.args.trail.now c.args.reach c.args.self.now.on.items c.args.self.now.seen.items c.args.self.now.places c.args.self.now.least c.args.place s c.requires.search c.requires.walk c.requires.after at resolved in
    reason_line c.args.store.now c.args.trail.now c.args.place s c.requires.search at reason c.in_default.ensures

pub returns-then-not-index-clause-closing : goal.returns-then-not-index-clause-closing
returns-then-not-index-clause-closing c =
    let off = mark_read c.args.self.now.on.items c.args.place c.index.result.now (omega (arith, c.requires.within, c.requires.walk.all.long)) c.index.ensures ∙ c.if-not-index.true in
    λ given rest. closing_skip c.args.store.now c.args.trail.now c.args.reach c.requires.lines c.requires.search c.args.self.now.on.items c.args.place (c.args.place + 1) given (reverse c.args.hints.now.items) refl
    (λ s at on resolved. (let both : true ≡ false = sym on ∙ off in cc)) rest

pub returns-then-not-resolves-clause-closing : goal.returns-then-not-resolves-clause-closing
returns-then-not-resolves-clause-closing c =
    λ given rest. closing_skip c.args.store.now c.args.trail.now c.args.reach c.requires.lines c.requires.search c.args.self.now.on.items c.args.place (c.args.place + 1) given (reverse c.args.hints.now.items) refl
    (λ s at on resolved. (let same : c.step_at-step.result ≡ s = same_Some c.step_at-step.result s (sym c.step_at-step.ensures.value ∙ at) in
    let both : true ≡ false = sym resolved ∙ ap (is_resolved c.args.reach) (sym same) ∙ sym c.resolves.ensures ∙ c.if-not-resolves.true in cc)) rest

pub returns-clause-closing : goal.returns-clause-closing
returns-clause-closing c =
    let s = c.step_at-step.result in
    let at = c.step_at-step.ensures.value in
    let resolved : is_resolved c.args.reach s ≡ true = sym c.if-not-resolves.ensures in
    let reason = has_reason c.args.store.now c.args.trail.now c.args.reach c.args.self.now.on.items c.args.self.now.seen.items c.args.self.now.places c.args.self.now.least c.args.place s c.requires.search c.requires.walk c.requires.after at resolved in
    let there = c.in-Some.ensures in
    let forces = reason_forces c.args.store.now c.args.trail.now c.args.place s c.in-Some.line.now c.requires.search at reason there in
    let done = c.in_ok-mark_all.ensures in
    λ given rest. subst (λ (hs : List Hint). IsClosing c.args.store.now c.args.trail.now c.args.reach c.mark_all.new.self.on.items c.args.place given hs) (sym (pushed_first c.args.hints.now.items c.push.new.self.items s.reason (c.in_ok-push.ensures).items))
    (closing_step c.args.store.now c.args.trail.now c.args.reach c.requires.lines c.requires.search c.args.self.now.on.items c.mark_all.new.self.on.items c.args.place (c.args.place + 1) given (reverse c.args.hints.now.items) s s.reason c.in-Some.line.now refl at there forces done.more done.marked rest)
