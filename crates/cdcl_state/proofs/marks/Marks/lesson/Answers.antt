use Rattle.std.specs.Prelude.{◌≡◌, ◌<◌, ◌+◌, ℕ, List, [], reverse}
use Rattle.std.proofs.Common.{sym, ◌∙◌, subst, arith}
use Rattle.scut_base.specs.Literal.{Literal}
use Rattle.pb_lin.specs.Constraint.{opposite}
use Rattle.hint_rup.specs.declared.hint.Hint.{Hint}
use Rattle.clause_prop.specs.Steps.{last_level}
use Rattle.cdcl_trail.specs.Learning.{IsAsserting}
use Rattle.cdcl_state.specs.declared.reach.Reach.TheVariants.{Level}
use Rattle.cdcl_state.specs.Walking.{IsClosing, IsOutcome, spare}
use Rattle.cdcl_state.proofs.Closing.{spare_one}
use Rattle.cdcl_state.proofs.Outcomes.{apart_from, lesson_asserting, lesson_hints}
use Rattle.hint_rup.proofs.Negations.{opposite_is}
use Rattle.cdcl_state.proofs.marks.Marks.lesson.Goals as goal

pub step_at-requires : goal.step_at-requires
step_at-requires c = omega (arith, (c.in_ok-hints.ensures).within, (c.in_ok-minimise.ensures).least, spare_one c.level-top.result c.trace.new.self.least)

pub outcome-requires-clause-apart : goal.outcome-requires-clause-apart
outcome-requires-clause-apart c =
    let u = c.step_at.result in
    let at = c.step_at.ensures.value in
    apart_from c.args.store.now c.args.trail.now (Level c.level-top.result) c.minimise.new.self.least u c.not-lit.result c.requires.search at ((c.in_ok-minimise.ensures).walk.resolved u at) c.not-lit.ensures.var

pub returns-clause-lesson : goal.returns-clause-lesson
returns-clause-lesson c =
    let t = c.args.trail.now in
    let store = c.args.store.now in
    let top = c.level-top.result in
    let marks = c.minimise.new.self.on.items in
    let seen = c.minimise.new.self.seen.items in
    let places = c.minimise.new.self.places in
    let least = c.minimise.new.self.least in
    let u = c.step_at.result in
    let at = c.step_at.ensures.value in
    let lit : c.not-lit.result ≡ opposite u.lit = opposite_is c.not-lit.result u.lit c.not-lit.ensures.var c.not-lit.ensures.neg in
    let walk = (c.in_ok-minimise.ensures).walk in
    let outcome = subst (λ (l : Literal). IsOutcome t (Level top) marks places l c.in_ok-lits.lits) lit c.in_ok-lits.ensures in
    let above : 0 < top = subst (λ n. 0 < n) (sym c.level-top.ensures) c.requires.above in
    let traced = subst (λ (n : ℕ). IsClosing store t (Level top) c.trace.new.self.on.items (n + spare (Level top)) [] (reverse c.in_ok-hints.hints.items)) (sym (c.in_ok-minimise.ensures).least) (c.in_ok-hints.ensures).closing in
    let narrowed = (c.in_ok-minimise.ensures).closing (least + spare (Level top)) traced in
    let closing = subst (λ (hs : List Hint). IsClosing store t (Level top) marks (least + spare (Level top)) [] hs) (sym (c.from_vec-hints.ensures ∙ c.reverse.ensures.items)) narrowed in
    record {
      asserting = subst (λ (l : Literal). IsAsserting t (last_level t.steps) c.highest.result c.in_ok-lits.lits l) (sym lit)
          (subst (λ n. IsAsserting t n c.highest.result c.in_ok-lits.lits (opposite u.lit)) c.level-top.ensures
          (lesson_asserting store t marks seen places least top c.highest.result u c.in_ok-lits.lits c.requires.search c.level-top.ensures above walk at outcome c.highest.ensures));
      hints = lesson_hints store t marks seen places least c.from_vec-hints.result c.in_ok-lits.lits top u c.requires.search.steps walk at outcome closing;
      met = c.in_ok-met.ensures;
    }
