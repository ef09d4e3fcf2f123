use Rattle.std.specs.Prelude.{◌≡◌, ◌++◌, ◌≤◌, [], ◌∷◌, ℕ, List, All, length, reverse}
use Rattle.std.proofs.Common.{◌∙◌, sym, ap, subst, arith}
use Rattle.pb_lin.specs.Constraint.{literals}
use Rattle.hint_rup.specs.declared.hint.Hint.{Hint}
use Rattle.hint_rup.specs.declared.hint.Hint.TheVariants.{Id as IdHint}
use Rattle.cdcl_state.specs.Walking.{IsClosing, IsMarkedBefore}
use Rattle.cdcl_state.proofs.Closing.{closing_start, violated_line}
use Rattle.cdcl_state.proofs.TopLevel.{least_within}
use Rattle.cdcl_state.proofs.marks.Marks.trace.Goals as goal

pub walk_back-requires : goal.walk_back-requires
walk_back-requires c =
    let t = c.args.trail.now in
    let done = c.in_ok-mark_all.ensures in
    let marked = subst (λ (n : ℕ). All (IsMarkedBefore t c.mark_all.new.self.on.items n) (literals c.in-Some.line.now.terms)) c.len.ensures.value done.marked in
    let least : c.mark_all.new.self.least ≤ length t.steps = omega (arith, done.falls, c.len-self.ensures.value) in
    let within = least_within c.args.store.now t c.args.reach c.mark_all.new.self.on.items c.mark_all.new.self.seen.items c.mark_all.new.self.places c.mark_all.new.self.least c.args.conflict c.in-Some.line.now c.requires.lines c.requires.search c.requires.above done.walk least c.in-Some.ensures
    (violated_line c.args.store.now t c.args.conflict c.in-Some.line.now c.requires.conflict c.in-Some.ensures) marked in
    record { walk = done.walk; lines = c.requires.lines; search = c.requires.search; after = omega (arith, within, c.len-2.ensures.value); within = omega (arith, c.len-2.ensures.value) }

pub returns-clause-within : goal.returns-clause-within
returns-clause-within c = omega (arith, (c.in_ok-walk_back.ensures).after, c.len-2.ensures.value)

pub returns-clause-closing : goal.returns-clause-closing
returns-clause-closing c =
    let t = c.args.trail.now in
    let done = c.in_ok-mark_all.ensures in
    let marks = c.mark_all.new.self.on.items in
    let marked = subst (λ (n : ℕ). All (IsMarkedBefore t marks n) (literals c.in-Some.line.now.terms)) c.len.ensures.value done.marked in
    let start = closing_start c.args.store.now t c.args.reach c.requires.lines c.requires.search marks [] c.args.conflict c.in-Some.line.now c.in-Some.ensures
    (violated_line c.args.store.now t c.args.conflict c.in-Some.line.now c.requires.conflict c.in-Some.ensures) marked in
    let pushed : c.push.new.self.items ≡ IdHint c.args.conflict ∷ [] = (c.in_ok-push.ensures).items ∙ ap (λ (hs : List Hint). hs ++ IdHint c.args.conflict ∷ []) c.new-hints.ensures.items in
    let begin = subst (λ (hs : List Hint). IsClosing c.args.store.now t c.args.reach marks (length t.steps) [] (reverse hs)) (sym pushed) start in
    let end = subst (λ (n : ℕ). IsClosing c.args.store.now t c.args.reach marks n [] (reverse c.push.new.self.items)) (sym c.len-2.ensures.value) begin in
    (c.in_ok-walk_back.ensures).closing [] end
