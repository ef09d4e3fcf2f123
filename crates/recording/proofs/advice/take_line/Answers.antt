use Rattle.std.proofs.Common.{rules, sym, subst}
use Rattle.std.specs.Prelude.{IsTrue}
use Rattle.pb_lin.specs.Problem.{ProblemValue, IsProblem}
use Rattle.proof_laws.specs.State.{Fits}
use Rattle.proof_laws.specs.Legal.{IsLegal}
use Rattle.recording.proofs.JudgedLines.{legal_added, reached_fits}
use Rattle.recording.proofs.advice.take_line.Goals as goal

pub is_legal-requires-clause-fits : goal.is_legal-requires-clause-fits
is_legal-requires-clause-fits g c =
    let R = g.R.Recorder in
    let a = R.seen c.args.rec.now in
    let s = c.state.result.now in
    subst (λ (p : ProblemValue). Fits p s) c.requires.same
    (reached_fits a.problem a.lines s c.state.ensures.replays
    (subst IsProblem (sym c.requires.same) c.requires.problem) c.state.ensures.formed)

pub add_line-requires-clause-legal : goal.add_line-requires-clause-legal
add_line-requires-clause-legal g c =
    let R = g.R.Recorder in
    let a = R.seen c.args.rec.now in
    let s = c.state.result.now in
    let line = c.args.line.now in
    let judged : IsTrue c.in_ok-in_memory.field-0 → IsLegal c.args.judge.now s line =
    rw c.in_ok-in_memory.ensures.ok at c.is_legal.ensures.legal in
    legal_added a.problem a.lines s c.state.ensures.replays line
    (subst (λ (p : ProblemValue). IsLegal p s line) (sym c.requires.same) (judged c.if-not-branch.false))

pub returns-clause-took : goal.returns-clause-took
returns-clause-took g c =
    let was = c.in_ok-add_line.ensures in
    record {
      problem = was.keeps.problem;
      limit = was.keeps.limit;
      whole = was.whole;
      kind = c.is_formed.ensures.kind c.if-not-is_formed.false;
      lines = was.added;
      state = c.state-state.result.now;
      reached = c.state-state.ensures.replays;
    }
