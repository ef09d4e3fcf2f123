use Rattle.std.proofs.Common.{refl, ap, ◌∙◌}
use Rattle.std.specs.FinMap.{insert}
use Rattle.pb_lin.specs.Constraint.{ConstraintValue}
use Rattle.clause_prop.specs.Steps.{with_step}
use Rattle.cdcl_trail.specs.Learning.{asserted}
use Rattle.cdcl_state.specs.Searching.{SearchValue}
use Rattle.cdcl_core.proofs.LearnedLine.{at_work, formed, legal}
use Rattle.cdcl_core.proofs.LearnedSolver.{given_inside, learns_line, steps_line}
use Rattle.cdcl_core.proofs.Working.{done_working, learns_unchanged, steps_unchanged}
use Rattle.cdcl_core.proofs.solver.Solver.add_learned.Goals as goal

pub record-requires-clause-formed : goal.record-requires-clause-formed
record-requires-clause-formed g c = formed g.R.Recorder.seen _ _ _ _ c.requires.working c.requires.learnable

pub record-requires-clause-legal : goal.record-requires-clause-legal
record-requires-clause-legal g c =
    let given = given_inside g.R.Recorder.seen _ _ _ _ _ c.self.view_is c.requires.working c.requires.learnable c.requires.more in
    legal g.R.Recorder.seen _ _ _ _ given.work given.can

pub returns-in_err-id-clause-steps : goal.returns-in_err-id-clause-steps
returns-in_err-id-clause-steps g c = steps_unchanged g.R.Recorder.seen _ _ _ c.self.view_is refl refl c.in_err-id.ensures.keeps c.in_err-id.ensures.same c.requires.working

pub returns-in_err-id-clause-learns : goal.returns-in_err-id-clause-learns
returns-in_err-id-clause-learns g c = learns_unchanged g.R.Recorder.seen _ _ _ c.self.view_is c.in_err-id.ensures.same

pub returns-in_err-learn-clause-steps : goal.returns-in_err-learn-clause-steps
returns-in_err-learn-clause-steps g c =
    let given = given_inside g.R.Recorder.seen _ _ _ _ _ c.self.view_is c.requires.working c.requires.learnable c.requires.more in
    steps_line g.R.Recorder.seen _ _ _ _ _ _ c.self.view_is given c.in_ok-id.ensures.keeps c.in_ok-id.ensures.added refl refl

pub returns-in_err-learn-clause-learns : goal.returns-in_err-learn-clause-learns
returns-in_err-learn-clause-learns g c =
    let given = given_inside g.R.Recorder.seen _ _ _ _ _ c.self.view_is c.requires.working c.requires.learnable c.requires.more in
    learns_line g.R.Recorder.seen _ _ _ _ _ _ c.self.view_is given c.in_ok-id.ensures.added

pub returns-in_err-push-clause-steps : goal.returns-in_err-push-clause-steps
returns-in_err-push-clause-steps g c =
    let given = given_inside g.R.Recorder.seen _ _ _ _ _ c.self.view_is c.requires.working c.requires.learnable c.requires.more in
    steps_line g.R.Recorder.seen _ _ _ _ _ _ c.self.view_is given c.in_ok-id.ensures.keeps c.in_ok-id.ensures.added refl refl

pub returns-in_err-push-clause-learns : goal.returns-in_err-push-clause-learns
returns-in_err-push-clause-learns g c =
    let given = given_inside g.R.Recorder.seen _ _ _ _ _ c.self.view_is c.requires.working c.requires.learnable c.requires.more in
    learns_line g.R.Recorder.seen _ _ _ _ _ _ c.self.view_is given c.in_ok-id.ensures.added

pub returns-clause-working : goal.returns-clause-working
returns-clause-working g c =
    let given = given_inside g.R.Recorder.seen _ _ _ _ _ c.self.view_is c.requires.working c.requires.learnable c.requires.more in
    let search : SearchValue = c.self.inside.search in
    let with_clause : ConstraintValue → SearchValue = λ d. record { store = insert search.store c.in_ok-id.id d; trail = with_step search.trail (asserted c.args.lit c.args.level c.in_ok-id.id) } in
    let stored = ◌∙◌ {b = with_clause c.learned_goal.result.now} c.in_ok-learn.ensures.ok (ap with_clause (c.learned_goal.ensures _ _ given.can.learns)) in
    at_work g.R.Recorder.seen _ _ _ _ given.work given.can _ c.in_ok-id.ensures.added _ c.state.result.now c.in_ok-id.id c.in_ok-id.ensures.whole c.in_ok-id.ensures.keeps.problem refl
    c.state.ensures.replays c.vars-vars.ensures.state (c.in_ok-id.ensures.id _ given.work.taken.held.replay) given.may stored c.in_ok-push.ensures.ok refl

pub returns-clause-ends : goal.returns-clause-ends
returns-clause-ends g c = done_working g.R.Recorder.seen _ (returns-clause-working g c)

pub returns-clause-steps : goal.returns-clause-steps
returns-clause-steps g c =
    let given = given_inside g.R.Recorder.seen _ _ _ _ _ c.self.view_is c.requires.working c.requires.learnable c.requires.more in
    steps_line g.R.Recorder.seen _ _ _ _ _ _ c.self.view_is given c.in_ok-id.ensures.keeps c.in_ok-id.ensures.added refl refl

pub returns-clause-learns : goal.returns-clause-learns
returns-clause-learns g c =
    let given = given_inside g.R.Recorder.seen _ _ _ _ _ c.self.view_is c.requires.working c.requires.learnable c.requires.more in
    learns_line g.R.Recorder.seen _ _ _ _ _ _ c.self.view_is given c.in_ok-id.ensures.added
