use Rattle.std.proofs.Common.{◌≤◌, ◌+◌, ◌∙◌, ◌≡◌, refl, sym, subst, arith}
use Rattle.pb_lin.specs.Propagation.{is_forced}
use Rattle.pb_lin.proofs.AtPlace.{All_place}
use Rattle.clause_prop.specs.Steps.{TrailValue, partial}
use Rattle.clause_prop.proofs.Visits.{IsVisited, visited_none, visited_same, visited_pushed, visited_whole, test_of}
use Rattle.clause_prop.proofs.line.force_terms.Goals as goal
use Rattle.clause_prop.proofs.line.force_terms.Goals.{then-is_forced, else-is_forced}

pub loop-at-init : goal.loop-at-init
loop-at-init c = visited_none _ _ _ _ c.requires.slack

pub is_forced-requires : goal.is_forced-requires
is_forced-requires c = subst (λ n. c.term-term.result.0.var ≤ n) (sym c.loop-at.invariant.vars) (All_place (λ t. t.0.var ≤ c.args.trail.now.vars) c.args.line.now.terms c.loop-at.at c.term-term.result c.requires.within c.term-term.ensures)

pub push_forced-requires-clause-within : goal.push_forced-requires-clause-within
push_forced-requires-clause-within c = subst (λ n. c.term-term.result.0.var ≤ n) (sym c.loop-at.invariant.vars) (All_place (λ t. t.0.var ≤ c.args.trail.now.vars) c.args.line.now.terms c.loop-at.at c.term-term.result c.requires.within c.term-term.ensures)

pub loop-at-preserved : goal.loop-at-preserved
loop-at-preserved c =
    let line = c.args.line.now in
    let s = c.args.line_slack in
    let old = c.args.trail.now in
    let new = c.loop-at.trail in
    let at = c.loop-at.at in
    let t = c.term-term.result in
    let visited = c.loop-at.invariant in
    let within = subst (λ n. t.0.var ≤ n) (sym visited.vars) (All_place (λ t. t.0.var ≤ old.vars) line.terms at t c.requires.within c.term-term.ensures) in
    let test : c.is_forced.result ≡ is_forced (partial new) line t = test_of line c.args.id s old new at t c.is_forced.result visited c.is_forced.ensures.value in
    elim c.if-is_forced.branch [
      | then-is_forced w ↦ subst (λ (u : TrailValue). IsVisited line c.args.id s old u (at + 1)) (sym (w.trail-is ∙ w.push_forced.ensures))
          (visited_pushed line c.args.id s old new at t visited c.len-at-end.ensures.normal.merged c.term-term.ensures within (w.if-is_forced.ensures.open refl) (sym test ∙ w.if-is_forced.true))
      | else-is_forced w ↦ subst (λ (u : TrailValue). IsVisited line c.args.id s old u (at + 1)) (sym w.trail-is) (visited_same line c.args.id s old new at t visited c.term-term.ensures (sym test ∙ w.if-is_forced.false))
    ]

pub returns-clause-closed : goal.returns-clause-closed
returns-clause-closed c = visited_whole _ _ _ _ _ c.loop-at.at c.loop-at.invariant (omega (arith, c.len-at-end.ensures.value))
