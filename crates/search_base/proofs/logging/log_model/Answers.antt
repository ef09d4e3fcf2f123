-- The line is legal, and what was answered has no opposite literals.
use Rattle.std.proofs.Common.{◌≡◌, false, refl, subst}
use Rattle.proof_laws.specs.State.{StateValue}
use Rattle.proof_laws.proofs.Replays.{replay_once}
use Rattle.search_base.proofs.SolLines.{line_formed, line_may}
use Rattle.search_base.proofs.ModelLines.{model_goes_on, same_goes_on}
use Rattle.search_base.proofs.TakenLines.{model_taken, none_taken}
use Rattle.search_base.proofs.Turning.{goes_again}
use Rattle.search_base.proofs.logging.log_model.Goals as goal

pub returns-in_err-line-clause-goes_on : goal.returns-in_err-line-clause-goes_on
returns-in_err-line-clause-goes_on g c =
    let R = g.R.Recorder in
    goes_again (R.seen c.args.rec.now)

pub add_line-requires-clause-formed : goal.add_line-requires-clause-formed
add_line-requires-clause-formed g c =
    let R = g.R.Recorder in
    let p = (R.seen c.args.rec.now).problem in
    let ls = (R.seen c.args.rec.now).lines in
    let s = c.state.result.now in
    line_formed p ls s c.args.model.now c.args.answers.now c.in_ok-line.line
    (rw c.in_ok-line.ensures.ok at c.model_line.ensures)
    (c.requires.answers s c.state.ensures.replays)
    c.vars-vars.ensures.state c.requires.problem c.requires.model

pub add_line-requires-clause-legal : goal.add_line-requires-clause-legal
add_line-requires-clause-legal g c =
    let R = g.R.Recorder in
    let p = (R.seen c.args.rec.now).problem in
    let ls = (R.seen c.args.rec.now).lines in
    let s = c.state.result.now in
    let ready = c.requires.ready in
    let same : ready.state ≡ s = replay_once p ls ready.state s ready.reached c.state.ensures.replays in
    let running : s.ended ≡ false = subst (λ (t : StateValue). t.ended ≡ false) same ready.unended in
    line_may p ls s c.args.model.now c.args.answers.now c.in_ok-line.line
    (rw c.in_ok-line.ensures.ok at c.model_line.ensures)
    (c.requires.answers s c.state.ensures.replays)
    c.state.ensures.replays running c.requires.model

pub returns-in_err-add_line-clause-goes_on : goal.returns-in_err-add_line-clause-goes_on
returns-in_err-add_line-clause-goes_on g c =
    let R = g.R.Recorder in
    let a = R.seen c.args.rec.now in
    let b = R.seen c.add_line.new.self in
    let was = c.in_err-add_line.ensures in
    same_goes_on a b was.keeps.problem was.keeps.limit was.keeps.later was.keeps.around was.kept

pub returns-clause-goes_on : goal.returns-clause-goes_on
returns-clause-goes_on g c =
    let R = g.R.Recorder in
    let a = R.seen c.args.rec.now in
    let b = R.seen c.add_line.new.self in
    let was = c.in_ok-add_line.ensures in
    model_goes_on a b was.keeps.problem was.keeps.limit was.keeps.later was.keeps.around c.args.model.now c.args.answers.now c.in_ok-line.line
    (rw c.in_ok-line.ensures.ok at c.model_line.ensures) was.added

pub returns-clause-logged : goal.returns-clause-logged
returns-clause-logged g c =
    let was = c.in_ok-add_line.ensures in
    record {
      before = c.state.result.now;
      known = c.vars-vars.ensures.state;
      stood = c.state.ensures.replays;
      line =
          c.in_ok-line.line;
      is = rw c.in_ok-line.ensures.ok at c.model_line.ensures;
      lines = was.added;
      whole =
          was.whole;
      state = c.state-state.result.now;
      reached = c.state-state.ensures.replays;
    }

pub returns-in_err-line-clause-lines : goal.returns-in_err-line-clause-lines
returns-in_err-line-clause-lines g c =
    let R = g.R.Recorder in
    let a = R.seen c.args.rec.now in
    none_taken a.lines a.lines refl

pub returns-in_err-add_line-clause-lines : goal.returns-in_err-add_line-clause-lines
returns-in_err-add_line-clause-lines g c =
    let R = g.R.Recorder in
    let a = R.seen c.args.rec.now in
    let b = R.seen c.add_line.new.self in
    none_taken a.lines b.lines c.in_err-add_line.ensures.kept

pub returns-clause-lines : goal.returns-clause-lines
returns-clause-lines g c =
    let R = g.R.Recorder in
    let a = R.seen c.args.rec.now in
    let b = R.seen c.add_line.new.self in
    model_taken a.lines b.lines c.args.model.now c.args.answers.now c.in_ok-line.line
    (rw c.in_ok-line.ensures.ok at c.model_line.ensures) c.in_ok-add_line.ensures.added
