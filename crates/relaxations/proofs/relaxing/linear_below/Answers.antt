-- The bounds are asked for, and then the relaxations.
use Rattle.std.proofs.Common.{◌∙◌, length, ap, sym}
use Rattle.pb_lin.specs.Problem.{ProblemValue}
use Rattle.relaxations.proofs.Calls.{bounds_go_on, bounds_stay_good, good_rows, seeks_bounds, seeks_else, seeks_recording}
use Rattle.relaxations.proofs.relaxing.linear_below.Goals as goal

pub questioned-requires-clause-costs : goal.questioned-requires-clause-costs
questioned-requires-clause-costs g c =
    let R = g.O.Recorder in
    good_rows (R.seen c.args.oracle.now) c.args.bounds.now c.requires.good

pub returns-in_err-question-clause-seeks : goal.returns-in_err-question-clause-seeks
returns-in_err-question-clause-seeks g c =
    let R = g.O.Recorder in
    let a = R.seen c.args.oracle.now in
    let b = R.seen c.questioned.new.rec in
    let call = c.in_err-question.ensures.recorded in
    seeks_recording a b c.args.bounds.now c.questioned.new.bounds c.from_residual.result c.in_err-question.field-0.0
    c.from_residual.ensures.1 call.fault (bounds_go_on c.turn_lines_join.ensures a b call.continues)

pub ask_linear-requires-clause-good : goal.ask_linear-requires-clause-good
ask_linear-requires-clause-good g c =
    let R = g.O.Recorder in
    let a = R.seen c.args.oracle.now in
    let m = R.seen c.questioned.new.rec in
    let asked = c.in_ok-question.ensures in
    let front = c.requires.good in (
      front.0,
      (bounds_stay_good c.bounding_stays_good.ensures a m c.args.bounds.now c.questioned.new.bounds
          asked.recorded.continues asked.recorded.whole asked.fits front.0 front.1).0,
    )

pub ask_linear-requires-clause-problem : goal.ask_linear-requires-clause-problem
ask_linear-requires-clause-problem g c = c.in_ok-question.ensures.recorded.continues.problem ∙ c.requires.problem

pub ask_linear-requires-clause-count : goal.ask_linear-requires-clause-count
ask_linear-requires-clause-count g c =
    c.requires.count ∙ ap (λ (p : ProblemValue). length p.costs) (sym c.in_ok-question.ensures.recorded.continues.problem)

pub returns-clause-seeks : goal.returns-clause-seeks
returns-clause-seeks g c =
    let R = g.O.Recorder in
    let a = R.seen c.args.oracle.now in
    let m = R.seen c.questioned.new.rec in
    let b = R.seen c.ask_linear.new.oracle in
    let asked = c.in_ok-question.ensures in
    seeks_else a m b c.args.bounds.now c.questioned.new.bounds c.questioned.new.bounds c.ask_linear.result
    (seeks_bounds c.bounding_stays_good.ensures c.turn_lines_join.ensures a m c.args.bounds.now c.questioned.new.bounds
    c.in_ok-question.question asked.recorded.continues asked.recorded.whole asked.fits)
    c.ask_linear.ensures.seeks
