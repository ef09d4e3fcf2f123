-- The model's costs are asked for, it is logged once more, and then put onto the board.
use Rattle.std.proofs.Common.{◌≡◌, ◌≤◌, List, [], ◌∷◌, ◌++◌, Bool, length, sym, ap, ◌∙◌, subst, arith, ℤ}
use Rattle.pb_lin.specs.Problem.{ProblemValue, IsProblemModel, problem_costs}
use Rattle.sum_outputs.proofs.LaterStates.{ready_later}
use Rattle.totalizer.specs.declared.bound.Bound.{Bound}
use Rattle.search_base.specs.Boards.{BoardValue}
use Rattle.search_base.specs.Cutting.{AreAlike, AreAnswersAt, IsPut, answered_literals}
use Rattle.search_base.specs.Pending.{IsGoodBut}
use Rattle.search_base.proofs.ModelLines.{totalizer_goes_on}
use Rattle.search_base.proofs.SettledStates.{good_settled, last_pending, settled_serve}
use Rattle.search_base.proofs.Taking.{IsLoggedAfter, WasAsked, in_memory_ok, was_asked}
use Rattle.search_base.proofs.TakenLines.{taken_twice, totalizer_taken}
use Rattle.search_base.proofs.Turning.{goes_again, goes_twice}
use Rattle.search_base.proofs.board.Board.settle_one.Goals as goal

pub returns-in_err-costs-clause-goes_on : goal.returns-in_err-costs-clause-goes_on
returns-in_err-costs-clause-goes_on g c =
    let R = g.R.Recorder in
    goes_again (R.seen c.args.rec.now)

pub returns-in_err-answers-clause-goes_on : goal.returns-in_err-answers-clause-goes_on
returns-in_err-answers-clause-goes_on g c =
    let R = g.R.Recorder in
    let a = R.seen c.args.rec.now in
    let m = R.seen c.answers_at.new.rec in
    totalizer_goes_on a m c.in_err-answers.ensures.recorded.continues

pub returns-in_err-named-clause-goes_on : goal.returns-in_err-named-clause-goes_on
returns-in_err-named-clause-goes_on g c =
    let R = g.R.Recorder in
    let a = R.seen c.args.rec.now in
    let m = R.seen c.answers_at.new.rec in
    totalizer_goes_on a m c.in_ok-answers.ensures.recorded.continues

pub log_model-requires-clause-ready : goal.log_model-requires-clause-ready
log_model-requires-clause-ready g c =
    let R = g.R.Recorder in
    let a = R.seen c.args.rec.now in
    let m = R.seen c.answers_at.new.rec in
    ready_later a m c.requires.good.1.ready c.in_ok-answers.ensures.recorded.continues
    c.in_ok-answers.ensures.recorded.whole

pub log_model-requires-clause-model : goal.log_model-requires-clause-model
log_model-requires-clause-model g c =
    let R = g.R.Recorder in
    let a = R.seen c.args.rec.now in
    let m = R.seen c.answers_at.new.rec in
    let good = c.requires.good.1 in
    let is = last_pending a c.args.bounds.now c.args.self.now c.requires.good.0 c.args.model.now good in
    subst (λ (p : ProblemValue). IsProblemModel p c.args.model.now)
    (good.problem ∙ sym c.in_ok-answers.ensures.recorded.continues.problem) is.model

pub returns-in_err-log_model-clause-goes_on : goal.returns-in_err-log_model-clause-goes_on
returns-in_err-log_model-clause-goes_on g c =
    let R = g.R.Recorder in
    let a = R.seen c.args.rec.now in
    let m = R.seen c.answers_at.new.rec in
    let b = R.seen c.log_model.new.rec in
    goes_twice a m b (totalizer_goes_on a m c.in_ok-answers.ensures.recorded.continues)
    c.in_err-log_model.ensures.goes_on

pub returns-clause-goes_on : goal.returns-clause-goes_on
returns-clause-goes_on g c =
    let R = g.R.Recorder in
    let a = R.seen c.args.rec.now in
    let m = R.seen c.answers_at.new.rec in
    let b = R.seen c.log_model.new.rec in
    goes_twice a m b (totalizer_goes_on a m c.in_ok-answers.ensures.recorded.continues)
    c.in_ok-log_model.ensures.goes_on

pub log_model-requires-clause-answers : goal.log_model-requires-clause-answers
log_model-requires-clause-answers g c =
    let R = g.R.Recorder in
    let a = R.seen c.args.rec.now in
    let m = R.seen c.answers_at.new.rec in
    let x = c.args.model.now in
    let p = c.self.inside.problem.now in
    let good = c.requires.good.1 in
    let same : p ≡ a.problem = ap (λ (d : BoardValue). d.problem) c.self.view_is ∙ good.problem in
    let costs : c.in_ok-costs.costs ≡ problem_costs p x = rw c.in_ok-costs.ensures.ok at c.costs_at.ensures in
    let called = c.in_ok-answers.ensures in
    let was : WasAsked a m c.args.bounds.now x c.in_ok-answers.answers c.in_ok-named.named =
    was_asked a m c.args.bounds.now p c.in_ok-costs.costs x c.in_ok-answers.answers c.as_slice.result.now
    c.in_ok-named.named same costs c.as_slice.ensures called.recorded.continues called.asked called.answers
    (rw c.in_ok-named.ensures.ok at c.named_answers.ensures) in
    let serve = settled_serve a m c.state-state.result.now c.args.bounds.now x c.in_ok-answers.answers
    c.in_ok-named.named c.state-state.ensures.replays c.requires.own good.bounds was in
    subst (λ (bs : List Bound). AreAnswersAt m.problem m.lines x bs) (sym c.as_slice-2.ensures) serve.0

pub log_model-requires-clause-alike : goal.log_model-requires-clause-alike
log_model-requires-clause-alike g c =
    let R = g.R.Recorder in
    let a = R.seen c.args.rec.now in
    let m = R.seen c.answers_at.new.rec in
    let x = c.args.model.now in
    let p = c.self.inside.problem.now in
    let good = c.requires.good.1 in
    let same : p ≡ a.problem = ap (λ (d : BoardValue). d.problem) c.self.view_is ∙ good.problem in
    let costs : c.in_ok-costs.costs ≡ problem_costs p x = rw c.in_ok-costs.ensures.ok at c.costs_at.ensures in
    let called = c.in_ok-answers.ensures in
    let was : WasAsked a m c.args.bounds.now x c.in_ok-answers.answers c.in_ok-named.named =
    was_asked a m c.args.bounds.now p c.in_ok-costs.costs x c.in_ok-answers.answers c.as_slice.result.now
    c.in_ok-named.named same costs c.as_slice.ensures called.recorded.continues called.asked called.answers
    (rw c.in_ok-named.ensures.ok at c.named_answers.ensures) in
    let serve = settled_serve a m c.state-state.result.now c.args.bounds.now x c.in_ok-answers.answers
    c.in_ok-named.named c.state-state.ensures.replays c.requires.own good.bounds was in
    subst (λ (bs : List Bound). AreAlike (answered_literals bs)) (sym c.as_slice-2.ensures) serve.1

pub returns-clause-good : goal.returns-clause-good
returns-clause-good g c =
    let R = g.R.Recorder in
    let a = R.seen c.args.rec.now in
    let m = R.seen c.answers_at.new.rec in
    let b = R.seen c.log_model.new.rec in
    let x = c.args.model.now in
    let p = c.self.inside.problem.now in
    let good = c.requires.good.1 in
    let same : p ≡ a.problem = ap (λ (d : BoardValue). d.problem) c.self.view_is ∙ good.problem in
    let costs : c.in_ok-costs.costs ≡ problem_costs p x = rw c.in_ok-costs.ensures.ok at c.costs_at.ensures in
    let called = c.in_ok-answers.ensures in
    let was : WasAsked a m c.args.bounds.now x c.in_ok-answers.answers c.in_ok-named.named =
    was_asked a m c.args.bounds.now p c.in_ok-costs.costs x c.in_ok-answers.answers c.as_slice.result.now
    c.in_ok-named.named same costs c.as_slice.ensures called.recorded.continues called.asked called.answers
    (rw c.in_ok-named.ensures.ok at c.named_answers.ensures) in
    let serve = settled_serve a m c.state-state.result.now c.args.bounds.now x c.in_ok-answers.answers
    c.in_ok-named.named c.state-state.ensures.replays c.requires.own good.bounds was in
    let log : IsLoggedAfter a m b c.answers_at.new.bounds x c.as_slice-2.result.now = record {
      on = called.recorded.continues;
      whole = called.recorded.whole;
      fits = called.fits;
      answered = subst (λ (bs : List Bound). AreAnswersAt m.problem m.lines x bs) (sym c.as_slice-2.ensures) serve.0;
      logs = c.in_ok-log_model.ensures.logged;
      goes_on = c.in_ok-log_model.ensures.goes_on;
    } in
    in_memory_ok c.in_memory-3.result c.put.result c.in_memory-3.ensures.ok
    (λ (put : IsPut c.args.self.now c.put.new.self c.in_ok-costs.costs x) pending.
    good_settled c.adding_stays_good_but.ensures c.own_lines_stay.ensures c.fitting_stays.ensures
    c.reform_stays.ensures a m b c.args.bounds.now c.answers_at.new.bounds c.args.self.now c.put.new.self x
    c.as_slice-2.result.now pending log
    (subst (λ (vs : List ℤ). IsPut c.args.self.now c.put.new.self vs x)
    (costs ∙ ap (λ (q : ProblemValue). problem_costs q x) same) put))
    c.put.ensures.put

pub put-requires : goal.put-requires
put-requires g c =
    let R = g.R.Recorder in
    let a = R.seen c.args.rec.now in
    let good = c.requires.good.1 in
    let is = last_pending a c.args.bounds.now c.args.self.now c.requires.good.0 c.args.model.now good in
    let long : length c.args.model.now ≡ c.args.self.now.problem.vars = is.model.variables in
    let normal = good.board.normal in
    omega (arith, long, normal.vars)

pub returns-in_err-log_model-clause-lines : goal.returns-in_err-log_model-clause-lines
returns-in_err-log_model-clause-lines g c =
    let R = g.R.Recorder in
    let a = R.seen c.args.rec.now in
    let m = R.seen c.answers_at.new.rec in
    let b = R.seen c.log_model.new.rec in
    taken_twice a.lines m.lines b.lines (totalizer_taken a m c.in_ok-answers.ensures.recorded.continues)
    c.in_err-log_model.ensures.lines

pub returns-clause-lines : goal.returns-clause-lines
returns-clause-lines g c =
    let R = g.R.Recorder in
    let a = R.seen c.args.rec.now in
    let m = R.seen c.answers_at.new.rec in
    let b = R.seen c.log_model.new.rec in
    taken_twice a.lines m.lines b.lines (totalizer_taken a m c.in_ok-answers.ensures.recorded.continues)
    c.in_ok-log_model.ensures.lines
