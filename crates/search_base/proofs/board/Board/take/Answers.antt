-- The model is tightened, its costs are asked for, it is logged, and then put onto the board.
use Rattle.std.proofs.Common.{◌≡◌, ◌≤◌, List, length, take, sym, ap, ◌∙◌, subst, ℤ}
use Rattle.pb_lin.specs.Problem.{ProblemValue, IsProblem, IsProblemModel, problem_costs}
use Rattle.sum_outputs.proofs.LaterStates.{ready_later}
use Rattle.totalizer.specs.declared.bound.Bound.{Bound}
use Rattle.search_base.specs.Boards.{BoardValue}
use Rattle.search_base.specs.Cutting.{AreAlike, AreAnswersAt, IsPut, answered_literals}
use Rattle.search_base.proofs.ModelLines.{totalizer_goes_on}
use Rattle.search_base.proofs.Takable.{long_enough, problem_part}
use Rattle.search_base.proofs.Taking.{IsLoggedAfter, IsTightened, WasAsked, good_taken, in_memory_ok, is_taken, named_serve, tight_below, tightened_of, was_asked}
use Rattle.search_base.proofs.TakenLines.{taken_twice, totalizer_taken}
use Rattle.search_base.proofs.Turning.{goes_again, goes_twice}
use Rattle.search_base.proofs.board.Board.take.Goals as goal

pub tighten-requires-clause-long : goal.tighten-requires-clause-long
tighten-requires-clause-long g c =
    let R = g.R.Recorder in
    let a = R.seen c.args.rec.now in
    let same : c.self.inside.problem.now ≡ a.problem = ap (λ (b : BoardValue). b.problem) c.self.view_is
    ∙ c.requires.good.problem in
    subst (λ (p : ProblemValue). p.vars ≤ length c.args.a.now) (sym same)
    (long_enough a c.state-state.result.now c.args.a.now c.state-state.ensures.replays c.requires.model)

pub tighten-requires-clause-model : goal.tighten-requires-clause-model
tighten-requires-clause-model g c =
    let R = g.R.Recorder in
    let a = R.seen c.args.rec.now in
    let same : c.self.inside.problem.now ≡ a.problem = ap (λ (b : BoardValue). b.problem) c.self.view_is
    ∙ c.requires.good.problem in
    subst (λ (p : ProblemValue). IsProblemModel p (take p.vars c.args.a.now)) (sym same)
    (problem_part a c.state-state.result.now c.args.a.now c.state-state.ensures.replays c.requires.model
    (subst IsProblem same c.vars-problem.ensures.problem))

pub returns-in_err-b-clause-goes_on : goal.returns-in_err-b-clause-goes_on
returns-in_err-b-clause-goes_on g c =
    let R = g.R.Recorder in
    goes_again (R.seen c.args.rec.now)

pub returns-in_err-costs-clause-goes_on : goal.returns-in_err-costs-clause-goes_on
returns-in_err-costs-clause-goes_on g c =
    let R = g.R.Recorder in
    goes_again (R.seen c.args.rec.now)

pub returns-in_err-answers-clause-goes_on : goal.returns-in_err-answers-clause-goes_on
returns-in_err-answers-clause-goes_on g c =
    let R = g.R.Recorder in
    let a = R.seen c.args.rec.now in
    let m = R.seen c.answers_at.new.rec in
    totalizer_goes_on a m c.in_err-answers.ensures.recorded.continues

pub returns-in_err-named-clause-goes_on : goal.returns-in_err-named-clause-goes_on
returns-in_err-named-clause-goes_on g c =
    let R = g.R.Recorder in
    let a = R.seen c.args.rec.now in
    let m = R.seen c.answers_at.new.rec in
    totalizer_goes_on a m c.in_ok-answers.ensures.recorded.continues

pub log_model-requires-clause-ready : goal.log_model-requires-clause-ready
log_model-requires-clause-ready g c =
    let R = g.R.Recorder in
    let a = R.seen c.args.rec.now in
    let m = R.seen c.answers_at.new.rec in
    ready_later a m c.requires.good.ready c.in_ok-answers.ensures.recorded.continues
    c.in_ok-answers.ensures.recorded.whole

pub returns-in_err-log_model-clause-goes_on : goal.returns-in_err-log_model-clause-goes_on
returns-in_err-log_model-clause-goes_on g c =
    let R = g.R.Recorder in
    let a = R.seen c.args.rec.now in
    let m = R.seen c.answers_at.new.rec in
    let b = R.seen c.log_model.new.rec in
    goes_twice a m b (totalizer_goes_on a m c.in_ok-answers.ensures.recorded.continues)
    c.in_err-log_model.ensures.goes_on

pub returns-clause-goes_on : goal.returns-clause-goes_on
returns-clause-goes_on g c =
    let R = g.R.Recorder in
    let a = R.seen c.args.rec.now in
    let m = R.seen c.answers_at.new.rec in
    let b = R.seen c.log_model.new.rec in
    goes_twice a m b (totalizer_goes_on a m c.in_ok-answers.ensures.recorded.continues)
    c.in_ok-log_model.ensures.goes_on

pub log_model-requires-clause-answers : goal.log_model-requires-clause-answers
log_model-requires-clause-answers g c =
    let R = g.R.Recorder in
    let a = R.seen c.args.rec.now in
    let m = R.seen c.answers_at.new.rec in
    let y = c.args.a.now in
    let x = c.in_ok-b.b in
    let p = c.self.inside.problem.now in
    let same : p ≡ a.problem = ap (λ (d : BoardValue). d.problem) c.self.view_is ∙ c.requires.good.problem in
    let costs : c.in_ok-costs.costs ≡ problem_costs p x = rw c.in_ok-costs.ensures.ok at c.costs_at.ensures in
    let tight : IsTightened c.args.self.now.instance a.problem y x =
    tightened_of c.self.inside.instance.now c.args.self.now.instance p a.problem y x
    (ap (λ (d : BoardValue). d.instance) c.self.view_is) same (record {
      limits = c.vars-instance.ensures.limits;
      problem = c.vars-problem.ensures.problem;
      value = rw c.in_ok-b.ensures.ok at c.tighten.ensures.value;
      model = rw c.in_ok-b.ensures.ok at c.tighten.ensures.model;
      costs = rw c.in_ok-b.ensures.ok at c.tighten.ensures.costs;
      below = rw c.in_ok-b.ensures.ok at c.tighten.ensures.below;
    }) in
    let called = c.in_ok-answers.ensures in
    let was : WasAsked a m c.args.bounds.now x c.in_ok-answers.answers c.in_ok-named.named =
    was_asked a m c.args.bounds.now p c.in_ok-costs.costs x c.in_ok-answers.answers c.as_slice.result.now
    c.in_ok-named.named same costs c.as_slice.ensures called.recorded.continues called.asked called.answers
    (rw c.in_ok-named.ensures.ok at c.named_answers.ensures) in
    let serve = named_serve a m c.state-state.result.now c.args.bounds.now y x c.in_ok-answers.answers
    c.in_ok-named.named c.state-state.ensures.replays c.requires.model c.requires.good.bounds
    (tight_below c.args.self.now.instance a.problem y x tight) was in
    subst (λ (bs : List Bound). AreAnswersAt m.problem m.lines x bs) (sym c.as_slice-2.ensures) serve.0

pub log_model-requires-clause-alike : goal.log_model-requires-clause-alike
log_model-requires-clause-alike g c =
    let R = g.R.Recorder in
    let a = R.seen c.args.rec.now in
    let m = R.seen c.answers_at.new.rec in
    let y = c.args.a.now in
    let x = c.in_ok-b.b in
    let p = c.self.inside.problem.now in
    let same : p ≡ a.problem = ap (λ (d : BoardValue). d.problem) c.self.view_is ∙ c.requires.good.problem in
    let costs : c.in_ok-costs.costs ≡ problem_costs p x = rw c.in_ok-costs.ensures.ok at c.costs_at.ensures in
    let tight : IsTightened c.args.self.now.instance a.problem y x =
    tightened_of c.self.inside.instance.now c.args.self.now.instance p a.problem y x
    (ap (λ (d : BoardValue). d.instance) c.self.view_is) same (record {
      limits = c.vars-instance.ensures.limits;
      problem = c.vars-problem.ensures.problem;
      value = rw c.in_ok-b.ensures.ok at c.tighten.ensures.value;
      model = rw c.in_ok-b.ensures.ok at c.tighten.ensures.model;
      costs = rw c.in_ok-b.ensures.ok at c.tighten.ensures.costs;
      below = rw c.in_ok-b.ensures.ok at c.tighten.ensures.below;
    }) in
    let called = c.in_ok-answers.ensures in
    let was : WasAsked a m c.args.bounds.now x c.in_ok-answers.answers c.in_ok-named.named =
    was_asked a m c.args.bounds.now p c.in_ok-costs.costs x c.in_ok-answers.answers c.as_slice.result.now
    c.in_ok-named.named same costs c.as_slice.ensures called.recorded.continues called.asked called.answers
    (rw c.in_ok-named.ensures.ok at c.named_answers.ensures) in
    let serve = named_serve a m c.state-state.result.now c.args.bounds.now y x c.in_ok-answers.answers
    c.in_ok-named.named c.state-state.ensures.replays c.requires.model c.requires.good.bounds
    (tight_below c.args.self.now.instance a.problem y x tight) was in
    subst (λ (bs : List Bound). AreAlike (answered_literals bs)) (sym c.as_slice-2.ensures) serve.1

pub returns-in_err-log_model-clause-lines : goal.returns-in_err-log_model-clause-lines
returns-in_err-log_model-clause-lines g c =
    let R = g.R.Recorder in
    let a = R.seen c.args.rec.now in
    let m = R.seen c.answers_at.new.rec in
    let b = R.seen c.log_model.new.rec in
    taken_twice a.lines m.lines b.lines (totalizer_taken a m c.in_ok-answers.ensures.recorded.continues)
    c.in_err-log_model.ensures.lines

pub returns-clause-lines : goal.returns-clause-lines
returns-clause-lines g c =
    let R = g.R.Recorder in
    let a = R.seen c.args.rec.now in
    let m = R.seen c.answers_at.new.rec in
    let b = R.seen c.log_model.new.rec in
    taken_twice a.lines m.lines b.lines (totalizer_taken a m c.in_ok-answers.ensures.recorded.continues)
    c.in_ok-log_model.ensures.lines

pub returns-clause-good : goal.returns-clause-good
returns-clause-good g c =
    let R = g.R.Recorder in
    let a = R.seen c.args.rec.now in
    let m = R.seen c.answers_at.new.rec in
    let y = c.args.a.now in
    let x = c.in_ok-b.b in
    let p = c.self.inside.problem.now in
    let same : p ≡ a.problem = ap (λ (d : BoardValue). d.problem) c.self.view_is ∙ c.requires.good.problem in
    let costs : c.in_ok-costs.costs ≡ problem_costs p x = rw c.in_ok-costs.ensures.ok at c.costs_at.ensures in
    let tight : IsTightened c.args.self.now.instance a.problem y x =
    tightened_of c.self.inside.instance.now c.args.self.now.instance p a.problem y x
    (ap (λ (d : BoardValue). d.instance) c.self.view_is) same (record {
      limits = c.vars-instance.ensures.limits;
      problem = c.vars-problem.ensures.problem;
      value = rw c.in_ok-b.ensures.ok at c.tighten.ensures.value;
      model = rw c.in_ok-b.ensures.ok at c.tighten.ensures.model;
      costs = rw c.in_ok-b.ensures.ok at c.tighten.ensures.costs;
      below = rw c.in_ok-b.ensures.ok at c.tighten.ensures.below;
    }) in
    let called = c.in_ok-answers.ensures in
    let was : WasAsked a m c.args.bounds.now x c.in_ok-answers.answers c.in_ok-named.named =
    was_asked a m c.args.bounds.now p c.in_ok-costs.costs x c.in_ok-answers.answers c.as_slice.result.now
    c.in_ok-named.named same costs c.as_slice.ensures called.recorded.continues called.asked called.answers
    (rw c.in_ok-named.ensures.ok at c.named_answers.ensures) in
    let serve = named_serve a m c.state-state.result.now c.args.bounds.now y x c.in_ok-answers.answers
    c.in_ok-named.named c.state-state.ensures.replays c.requires.model c.requires.good.bounds
    (tight_below c.args.self.now.instance a.problem y x tight) was in
    let b = R.seen c.log_model.new.rec in
    let log : IsLoggedAfter a m b c.answers_at.new.bounds x c.as_slice-2.result.now = record {
      on = called.recorded.continues;
      whole = called.recorded.whole;
      fits = called.fits;
      answered = subst (λ (bs : List Bound). AreAnswersAt m.problem m.lines x bs) (sym c.as_slice-2.ensures) serve.0;
      logs = c.in_ok-log_model.ensures.logged;
      goes_on = c.in_ok-log_model.ensures.goes_on;
    } in
    in_memory_ok c.in_memory-4.result c.put.result c.in_memory-4.ensures.ok
    (λ (put : IsPut c.args.self.now c.put.new.self c.in_ok-costs.costs x).
    good_taken c.bounding_stays_good.ensures c.own_lines_stay.ensures c.fitting_stays.ensures c.reform_stays.ensures a m b
    c.state-state.result.now c.args.bounds.now c.answers_at.new.bounds c.args.self.now c.put.new.self y x
    c.as_slice-2.result.now c.state-state.ensures.replays c.requires.model tight c.requires.good log
    (subst (λ (vs : List ℤ). IsPut c.args.self.now c.put.new.self vs x)
    (costs ∙ ap (λ (q : ProblemValue). problem_costs q x) same) put))
    c.put.ensures.put

pub returns-clause-taken : goal.returns-clause-taken
returns-clause-taken g c =
    let R = g.R.Recorder in
    let a = R.seen c.args.rec.now in
    let m = R.seen c.answers_at.new.rec in
    let y = c.args.a.now in
    let x = c.in_ok-b.b in
    let p = c.self.inside.problem.now in
    let same : p ≡ a.problem = ap (λ (d : BoardValue). d.problem) c.self.view_is ∙ c.requires.good.problem in
    let costs : c.in_ok-costs.costs ≡ problem_costs p x = rw c.in_ok-costs.ensures.ok at c.costs_at.ensures in
    let tight : IsTightened c.args.self.now.instance a.problem y x =
    tightened_of c.self.inside.instance.now c.args.self.now.instance p a.problem y x
    (ap (λ (d : BoardValue). d.instance) c.self.view_is) same (record {
      limits = c.vars-instance.ensures.limits;
      problem = c.vars-problem.ensures.problem;
      value = rw c.in_ok-b.ensures.ok at c.tighten.ensures.value;
      model = rw c.in_ok-b.ensures.ok at c.tighten.ensures.model;
      costs = rw c.in_ok-b.ensures.ok at c.tighten.ensures.costs;
      below = rw c.in_ok-b.ensures.ok at c.tighten.ensures.below;
    }) in
    let called = c.in_ok-answers.ensures in
    let was : WasAsked a m c.args.bounds.now x c.in_ok-answers.answers c.in_ok-named.named =
    was_asked a m c.args.bounds.now p c.in_ok-costs.costs x c.in_ok-answers.answers c.as_slice.result.now
    c.in_ok-named.named same costs c.as_slice.ensures called.recorded.continues called.asked called.answers
    (rw c.in_ok-named.ensures.ok at c.named_answers.ensures) in
    let serve = named_serve a m c.state-state.result.now c.args.bounds.now y x c.in_ok-answers.answers
    c.in_ok-named.named c.state-state.ensures.replays c.requires.model c.requires.good.bounds
    (tight_below c.args.self.now.instance a.problem y x tight) was in
    let b = R.seen c.log_model.new.rec in
    let log : IsLoggedAfter a m b c.answers_at.new.bounds x c.as_slice-2.result.now = record {
      on = called.recorded.continues;
      whole = called.recorded.whole;
      fits = called.fits;
      answered = subst (λ (bs : List Bound). AreAnswersAt m.problem m.lines x bs) (sym c.as_slice-2.ensures) serve.0;
      logs = c.in_ok-log_model.ensures.logged;
      goes_on = c.in_ok-log_model.ensures.goes_on;
    } in
    in_memory_ok c.in_memory-4.result c.put.result c.in_memory-4.ensures.ok
    (λ (put : IsPut c.args.self.now c.put.new.self c.in_ok-costs.costs x).
    is_taken a m b c.state-state.result.now c.args.bounds.now c.answers_at.new.bounds c.args.self.now y x c.as_slice-2.result.now c.state-state.ensures.replays c.requires.model tight
    c.requires.good log)
    c.put.ensures.put
