use Rattle.std.proofs.Common.{refl, rules, sym, subst}
use Rattle.std.specs.Prelude.{◌↔◌, IsTrue}
use Rattle.pb_lin.specs.Problem.{ProblemValue, IsProblem}
use Rattle.proof_laws.specs.State.{Fits}
use Rattle.proof_laws.specs.Legal.{IsLegal}
use Rattle.search_base.proofs.JudgedLines.{legal_added, never_legal, reached_fits}
use Rattle.search_base.proofs.logging.add_legal.Goals as goal

pub is_legal-requires-clause-fits : goal.is_legal-requires-clause-fits
is_legal-requires-clause-fits g c =
    let R = g.R.Recorder in
    let a = R.seen c.args.rec.now in
    let s = c.state.result.now in
    subst (λ (p : ProblemValue). Fits p s) c.requires.same
    (reached_fits a.problem a.lines s c.state.ensures.replays
    (subst IsProblem (sym c.requires.same) c.requires.problem) c.state.ensures.formed)

pub returns-then-not-branch-clause-added : goal.returns-then-not-branch-clause-added
returns-then-not-branch-clause-added g c =
    let R = g.R.Recorder in
    let a = R.seen c.args.rec.now in
    let s = c.state.result.now in
    let line = c.args.line.now in
    let judged : IsTrue c.in_ok-in_memory.field-0 ↔ IsLegal c.args.problem.now s line =
    rw c.in_ok-in_memory.ensures.ok at c.is_legal.ensures in
    let no : IsLegal a.problem s line → ⊥ = λ legal.
    let is = judged.1 (subst (λ (p : ProblemValue). IsLegal p s line) c.requires.same legal) in
    let isnt = c.if-not-branch.true in cc in
    (λ t other formed legal. never_legal a.problem a.lines s c.state.ensures.replays line no t other legal, refl)

pub add_line-requires-clause-legal : goal.add_line-requires-clause-legal
add_line-requires-clause-legal g c =
    let R = g.R.Recorder in
    let a = R.seen c.args.rec.now in
    let s = c.state.result.now in
    let line = c.args.line.now in
    let judged : IsTrue c.in_ok-in_memory.field-0 ↔ IsLegal c.args.problem.now s line =
    rw c.in_ok-in_memory.ensures.ok at c.is_legal.ensures in
    let isnt = c.if-not-branch.false in
    legal_added a.problem a.lines s c.state.ensures.replays line
    (subst (λ (p : ProblemValue). IsLegal p s line) (sym c.requires.same) (judged.0 (search rules)))
