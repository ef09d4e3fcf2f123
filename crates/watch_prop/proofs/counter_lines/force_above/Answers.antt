use Rattle.std.proofs.Common.{◌≤◌, ◌<◌, ◌+◌, ◌∙◌, refl, sym, subst, arith}
use Rattle.pb_lin.proofs.AtPlace.{All_place}
use Rattle.clause_prop.specs.Steps.{TrailValue}
use Rattle.watch_prop.proofs.CounterForcing.{IsAbove, above_none, above_same, above_pushed, above_whole}
use Rattle.watch_prop.proofs.counter_lines.force_above.Goals as goal
use Rattle.watch_prop.proofs.counter_lines.force_above.Goals.{then-is_forced, else-is_forced}

pub loop-at-init : goal.loop-at-init
loop-at-init c = above_none c.args.line.now c.args.id _ c.args.trail.now c.requires.over

pub is_forced-requires : goal.is_forced-requires
is_forced-requires c = subst (λ n. c.term-term.result.0.var ≤ n) (sym c.loop-at.invariant.vars) (All_place (λ t. t.0.var ≤ c.args.trail.now.vars) c.args.line.now.terms c.loop-at.at c.term-term.result c.requires.within c.term-term.ensures)

pub push_forced-requires-clause-within : goal.push_forced-requires-clause-within
push_forced-requires-clause-within c = subst (λ n. c.term-term.result.0.var ≤ n) (sym c.loop-at.invariant.vars) (All_place (λ t. t.0.var ≤ c.args.trail.now.vars) c.args.line.now.terms c.loop-at.at c.term-term.result c.requires.within c.term-term.ensures)

pub loop-at-preserved : goal.loop-at-preserved
loop-at-preserved c =
    let line = c.args.line.now in
    let s = c.args.slack in
    let old = c.args.trail.now in
    let new = c.loop-at.trail in
    let at = c.loop-at.at in
    let t = c.term-term.result in
    let above = c.loop-at.invariant in
    let within = subst (λ n. t.0.var ≤ n) (sym above.vars) (All_place (λ t. t.0.var ≤ old.vars) line.terms at t c.requires.within c.term-term.ensures) in
    let from_one = All_place (λ t. 0 < t.0.var) line.terms at t c.len-at-end.ensures.normal.merged.from_one c.term-term.ensures in
    elim c.if-is_forced.branch [
      | then-is_forced w ↦ subst (λ (u : TrailValue). IsAbove line c.args.id (s + line.degree) old u (at + 1)) (sym (w.trail-is ∙ w.push_forced.ensures))
          (above_pushed line c.args.id s old new at t above c.term-term.ensures from_one within (w.if-is_forced.ensures.open refl) (sym c.is_forced.ensures.value ∙ w.if-is_forced.true))
      | else-is_forced w ↦ subst (λ (u : TrailValue). IsAbove line c.args.id (s + line.degree) old u (at + 1)) (sym w.trail-is) (above_same line c.args.id s old new at t above c.term-term.ensures (sym c.is_forced.ensures.value ∙ w.if-is_forced.false))
    ]

pub returns-clause-told : goal.returns-clause-told
returns-clause-told c = above_whole _ _ _ _ _ c.loop-at.at c.loop-at.invariant (omega (arith, c.len-at-end.ensures.value))

pub returns-clause-extends : goal.returns-clause-extends
returns-clause-extends c = c.loop-at.invariant.extends
