-- The question's bounds and the call keep a good state good, and the answer tells of the limits what was asked.
use Rattle.std.proofs.Common.{◌≡◌, Some, None, Ok, List, length, ap, sym, subst, ◌∙◌, ℤ}
use Rattle.std.proofs.lemmas.Result.{IfOk-weaker}
use Rattle.std.specs.Prelude.{IfOk}
use Rattle.pb_lin.specs.Problem.{ProblemValue}
use Rattle.oracle.specs.Solving.{AreAssumptions, IsAnswer}
use Rattle.oracle.specs.declared.answer.Answer.TheVariants.{Sat, Unsat}
use Rattle.relaxations.specs.Questions.{IsAsked}
use Rattle.relaxations.specs.Cores.{IsToldByCore}
use Rattle.relaxations.specs.Telling.{Tells}
use Rattle.relaxations.specs.declared.below.Below.TheVariants.{Above, Model}
use Rattle.relaxations.proofs.Calls.{good_rows, bounds_stay_good, bounds_go_on, seeks_bounds, seeks_else, seeks_handed, seeks_memory, seeks_ok, seeks_recording, seeks_told}
use Rattle.relaxations.proofs.Questions.{are_assumptions}
use Rattle.relaxations.proofs.Told.{told_clash, told_model, told_core}
use Rattle.relaxations.proofs.seeking.oracle_below.Goals as goal

pub questioned-requires-clause-costs : goal.questioned-requires-clause-costs
questioned-requires-clause-costs g c =
    let R = g.O.Recorder in
    let a = R.seen c.args.oracle.now in
    good_rows a c.args.bounds.now c.requires.good

pub returns-in_err-question-clause-seeks : goal.returns-in_err-question-clause-seeks
returns-in_err-question-clause-seeks g c =
    let R = g.O.Recorder in
    let a = R.seen c.args.oracle.now in
    let m = R.seen c.questioned.new.rec in
    let call = c.in_err-question.ensures.recorded in
    seeks_recording a m c.args.bounds.now c.questioned.new.bounds c.from_residual.result c.in_err-question.field-0.0
    c.from_residual.ensures.1 call.fault (bounds_go_on c.turn_lines_join.ensures a m call.continues)

pub returns-in_err-stands-clause-seeks : goal.returns-in_err-stands-clause-seeks
returns-in_err-stands-clause-seeks g c =
    let R = g.O.Recorder in
    let a = R.seen c.args.oracle.now in
    let m = R.seen c.questioned.new.rec in
    seeks_memory a m c.args.bounds.now c.questioned.new.bounds c.from_residual-in_err-stands.result
    c.from_residual-in_err-stands.ensures.1
    (bounds_go_on c.turn_lines_join.ensures a m c.in_ok-question.ensures.recorded.continues)

pub returns-in_default-clause-seeks : goal.returns-in_default-clause-seeks
returns-in_default-clause-seeks g c =
    let R = g.O.Recorder in
    let a = R.seen c.args.oracle.now in
    let m = R.seen c.questioned.new.rec in
    let asked = c.in_ok-question.ensures in
    seeks_bounds c.bounding_stays_good.ensures c.turn_lines_join.ensures a m c.args.bounds.now c.questioned.new.bounds
    (Above c.in_ok-stands.stands) asked.recorded.continues asked.recorded.whole asked.fits

pub returns-in_default-clause-tells : goal.returns-in_default-clause-tells
returns-in_default-clause-tells g c =
    let R = g.O.Recorder in
    let a = R.seen c.args.oracle.now in
    let m = R.seen c.questioned.new.rec in
    let asked = c.in_ok-question.ensures in
    let q = c.in_ok-question.question in
    let limits : List ℤ = c.args.limits.now in
    let is : IsAsked limits q.excesses q.last None = rw c.in_default.is at asked.asked.asked in
    let stands = c.in_ok-stands.ensures in
    told_clash m limits q.excesses q.last c.in_ok-stands.stands asked.asked.excesses is
    (rw c.as_slice-excesses.ensures at rw c.as_slice-objectives.ensures at stands)

pub solve-requires-clause-good : goal.solve-requires-clause-good
solve-requires-clause-good g c =
    let R = g.O.Recorder in
    let a = R.seen c.args.oracle.now in
    let m = R.seen c.questioned.new.rec in
    let asked = c.in_ok-question.ensures in
    let front = c.requires.good in (
      front.0,
      (bounds_stay_good c.bounding_stays_good.ensures a m c.args.bounds.now c.questioned.new.bounds
          asked.recorded.continues asked.recorded.whole asked.fits front.0 front.1).0,
    )

pub solve-requires-clause-problem : goal.solve-requires-clause-problem
solve-requires-clause-problem g c = c.in_ok-question.ensures.recorded.continues.problem ∙ c.requires.problem

pub solve-requires-clause-assumptions : goal.solve-requires-clause-assumptions
solve-requires-clause-assumptions g c =
    let R = g.O.Recorder in
    let a = R.seen c.args.oracle.now in
    let m = R.seen c.questioned.new.rec in
    let asked = c.in_ok-question.ensures in
    let q = c.in_ok-question.question in
    let limits : List ℤ = c.args.limits.now in
    let is : IsAsked limits q.excesses q.last (Some c.in-Some.lits) = rw c.in-Some.is at asked.asked.asked in
    λ s reached. subst (AreAssumptions s.vars) (sym c.as_slice.ensures)
    (are_assumptions m.problem m.lines limits q.excesses c.in-Some.lits s reached asked.asked.excesses is.1)

pub returns-in_err-model-clause-seeks : goal.returns-in_err-model-clause-seeks
returns-in_err-model-clause-seeks g c =
    let R = g.O.Recorder in
    let a = R.seen c.args.oracle.now in
    let m = R.seen c.questioned.new.rec in
    let b = R.seen c.solve.new.oracle in
    let asked = c.in_ok-question.ensures in
    let call = c.in_err-model.ensures in
    let bounds = c.questioned.new.bounds in
    seeks_else a m b c.args.bounds.now bounds bounds c.from_residual-in_err-model.result
    (seeks_bounds c.bounding_stays_good.ensures c.turn_lines_join.ensures a m c.args.bounds.now c.questioned.new.bounds
    c.in_ok-question.question asked.recorded.continues asked.recorded.whole asked.fits)
    (seeks_handed m b bounds bounds c.from_residual-in_err-model.result c.in_err-model.field-0.0
    c.from_residual-in_err-model.ensures.1 call.seeks)

pub returns-in-Sat-clause-seeks : goal.returns-in-Sat-clause-seeks
returns-in-Sat-clause-seeks g c =
    let R = g.O.Recorder in
    let a = R.seen c.args.oracle.now in
    let m = R.seen c.questioned.new.rec in
    let b = R.seen c.solve.new.oracle in
    let asked = c.in_ok-question.ensures in
    let call = c.in_ok-model.ensures in
    let bounds = c.questioned.new.bounds in
    seeks_else a m b c.args.bounds.now bounds bounds (Ok (Model c.in-Sat.model))
    (seeks_bounds c.bounding_stays_good.ensures c.turn_lines_join.ensures a m c.args.bounds.now c.questioned.new.bounds
    c.in_ok-question.question asked.recorded.continues asked.recorded.whole asked.fits)
    (seeks_ok m b bounds bounds (Model c.in-Sat.model) (call.seeks.good tt) call.seeks.goes_on)

pub returns-clause-seeks : goal.returns-clause-seeks
returns-clause-seeks g c =
    let R = g.O.Recorder in
    let a = R.seen c.args.oracle.now in
    let m = R.seen c.questioned.new.rec in
    let b = R.seen c.solve.new.oracle in
    let asked = c.in_ok-question.ensures in
    let call = c.in_ok-model.ensures in
    let bounds = c.questioned.new.bounds in
    seeks_else a m b c.args.bounds.now bounds bounds c.told_by_core.result
    (seeks_bounds c.bounding_stays_good.ensures c.turn_lines_join.ensures a m c.args.bounds.now c.questioned.new.bounds
    c.in_ok-question.question asked.recorded.continues asked.recorded.whole asked.fits)
    (seeks_told m b bounds bounds c.told_by_core.result (call.seeks.good tt) call.seeks.goes_on c.told_by_core.ensures.fault)

pub returns-in-Sat-clause-tells : goal.returns-in-Sat-clause-tells
returns-in-Sat-clause-tells g c =
    let R = g.O.Recorder in
    let a = R.seen c.args.oracle.now in
    let m = R.seen c.questioned.new.rec in
    let b = R.seen c.solve.new.oracle in
    let asked = c.in_ok-question.ensures in
    let q = c.in_ok-question.question in
    let limits : List ℤ = c.args.limits.now in
    let call = c.in_ok-model.ensures in
    let front = c.requires.good in
    let good = bounds_stay_good c.bounding_stays_good.ensures a m c.args.bounds.now c.questioned.new.bounds
    asked.recorded.continues asked.recorded.whole asked.fits front.0 front.1 in
    let is : IsAsked limits q.excesses q.last (Some c.in-Some.lits) = rw c.in-Some.is at asked.asked.asked in
    let long : length limits ≡ length m.problem.costs =
    c.requires.count ∙ ap (λ (p : ProblemValue). length p.costs) (sym asked.recorded.continues.problem) in
    let answer : IsAnswer m.problem b.lines c.in-Some.lits (Sat c.in-Sat.model) =
    rw c.as_slice.ensures at rw c.in-Sat.is at call.answer in
    let on = call.seeks.goes_on in
    let after = (call.seeks.good tt front.0 good.0).0.ready in
    told_model m b on.problem (after.state, after.reached) limits q.excesses
    c.in-Some.lits c.own_lines_stay.ensures c.turn_lines_keep_own.ensures
    good.0.ready.state good.0.ready.reached on.lines asked.asked.excesses is.1 is.0
    c.in-Sat.model long answer

pub returns-clause-tells : goal.returns-clause-tells
returns-clause-tells g c =
    let R = g.O.Recorder in
    let a = R.seen c.args.oracle.now in
    let m = R.seen c.questioned.new.rec in
    let b = R.seen c.solve.new.oracle in
    let asked = c.in_ok-question.ensures in
    let q = c.in_ok-question.question in
    let limits : List ℤ = c.args.limits.now in
    let call = c.in_ok-model.ensures in
    let front = c.requires.good in
    let good = bounds_stay_good c.bounding_stays_good.ensures a m c.args.bounds.now c.questioned.new.bounds
    asked.recorded.continues asked.recorded.whole asked.fits front.0 front.1 in
    let is : IsAsked limits q.excesses q.last (Some c.in-Some.lits) = rw c.in-Some.is at asked.asked.asked in
    let core = c.in-Unsat.core in
    let answer : IsAnswer m.problem b.lines c.in-Some.lits (Unsat core) =
    rw c.as_slice.ensures at rw c.in-Unsat.is at call.answer in
    let on = call.seeks.goes_on in
    let after = (call.seeks.good tt front.0 good.0).0.ready in
    let told : IfOk c.told_by_core.result (IsToldByCore q.excesses core.lits core.id (length limits)) =
    rw c.as_slice-excesses.ensures at rw c.as_slice-objectives.ensures at c.told_by_core.ensures.told in
    IfOk-weaker c.told_by_core.result (IsToldByCore q.excesses core.lits core.id (length limits)) (Tells b limits)
    (λ below. told_core m b on.problem (after.state, after.reached) limits q.excesses
    c.in-Some.lits c.own_lines_stay.ensures c.turn_lines_keep_own.ensures
    good.0.ready.state good.0.ready.reached on.lines asked.asked.excesses is.1 is.0
    core.lits core.id below answer) told
