use Rattle.std.specs.Prelude.{◌≡◌, ◌+◌, ◌++◌, [], ◌∷◌, ℕ, List, length, reverse}
use Rattle.std.proofs.Common.{◌∙◌, sym, ap, subst, arith}
use Rattle.std.proofs.lemmas.Option.{same_Some}
use Rattle.hint_rup.specs.declared.hint.Hint.{Hint}
use Rattle.hint_rup.specs.declared.hint.Hint.TheVariants.{Id as IdHint}
use Rattle.clause_prop.specs.declared.step.Step.{Step}
use Rattle.cdcl_state.specs.declared.reach.Reach.TheVariants.{Decisions}
use Rattle.cdcl_state.specs.Walking.{IsClosing, spare}
use Rattle.cdcl_state.proofs.Closing.{closing_blame, reason_forces, reason_line, spare_none, with_reason}
use Rattle.cdcl_state.proofs.Marking.{seen_start, walk_start}
use Rattle.cdcl_state.proofs.marks.Marks.explain.Goals as goal

pub unreachable-requires : goal.unreachable-requires
unreachable-requires c =
    let at = c.step_at-id.ensures.value in
    reason_line c.args.store.now c.args.trail.now c.args.place c.step_at-id.result c.requires.search at (c.requires.forced c.step_at-id.result at) c.in_default.ensures

pub returns-in_err-push-clause-walk : goal.returns-in_err-push-clause-walk
returns-in_err-push-clause-walk c =
    let u = c.requires.unmarked in
    walk_start c.args.trail.now Decisions c.args.self.now.on.items c.args.self.now.seen.items c.args.self.now.places c.args.place u.on
    (seen_start (length c.args.trail.now.steps) c.args.self.now.on.items c.args.self.now.seen.items c.args.self.now.places u.on u.seen u.places u.room c.requires.long) (λ s at. with_reason s (c.requires.forced s at))

pub mark_all-requires-clause-walk : goal.mark_all-requires-clause-walk
mark_all-requires-clause-walk c =
    let u = c.requires.unmarked in
    walk_start c.args.trail.now Decisions c.args.self.now.on.items c.args.self.now.seen.items c.args.self.now.places c.args.place u.on
    (seen_start (length c.args.trail.now.steps) c.args.self.now.on.items c.args.self.now.seen.items c.args.self.now.places u.on u.seen u.places u.room c.requires.long) (λ s at. with_reason s (c.requires.forced s at))

pub walk_back-requires : goal.walk_back-requires
walk_back-requires c =
    let done = c.in_ok-mark_all.ensures in
    record {
      walk = done.walk;
      lines = c.requires.lines;
      search = c.requires.search;
      after = omega (arith, done.falls, spare_none c.mark_all.new.self.least);
      within = omega (arith, c.requires.within);
    }

pub returns-clause-closing : goal.returns-clause-closing
returns-clause-closing c l s at is =
    let t = c.args.trail.now in
    let store = c.args.store.now in
    let place = c.args.place in
    let u = c.step_at-id.result in
    let there = c.step_at-id.ensures.value in
    let forces = reason_forces store t place u c.in-Some.line.now c.requires.search there (c.requires.forced u there) c.in-Some.ensures in
    let lit = ap (λ (x : Step). x.lit) (same_Some u s (sym there ∙ at)) ∙ is in
    let start = closing_blame store t Decisions c.requires.lines c.requires.search c.mark_all.new.self.on.items place u.reason u l c.in-Some.line.now lit c.in-Some.ensures forces (c.in_ok-mark_all.ensures).marked in
    let pushed : c.push.new.self.items ≡ IdHint u.reason ∷ [] = (c.in_ok-push.ensures).items ∙ ap (λ (hs : List Hint). hs ++ IdHint u.reason ∷ []) c.new-hints.ensures.items in
    let begin = subst (λ (hs : List Hint). IsClosing store t Decisions c.mark_all.new.self.on.items place (l ∷ []) (reverse hs)) (sym pushed) start in
    let end = (c.in_ok-walk_back.ensures).closing (l ∷ []) begin in
    subst (λ (n : ℕ). IsClosing store t Decisions c.walk_back.new.self.on.items n (l ∷ []) c.from_vec.result) (spare_none c.walk_back.new.self.least)
    (subst (λ (hs : List Hint). IsClosing store t Decisions c.walk_back.new.self.on.items (c.walk_back.new.self.least + spare Decisions) (l ∷ []) hs) (sym (c.from_vec.ensures ∙ c.reverse.ensures.items)) end)
