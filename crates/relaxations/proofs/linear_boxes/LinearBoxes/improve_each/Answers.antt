-- Each call keeps what the ones before it kept, and what is told of less is told of the aim.
use Rattle.std.proofs.Common.{◌∙◌, None, Option, length, ap, refl, sym}
use Rattle.front_set.proofs.FrontLaws.{length-IsBelow}
use Rattle.pb_lin.specs.Problem.{ProblemValue}
use Rattle.search_base.proofs.Turning.{goes_again, goes_twice}
use Rattle.relaxations.specs.declared.below.Below.{Below}
use Rattle.relaxations.proofs.Calls.{seeks_after, seeks_handed, seeks_memory, seeks_ok, stays_good_twice}
use Rattle.relaxations.proofs.LimitNumbers.{told_of_greater}
use Rattle.relaxations.proofs.linear_boxes.LinearBoxes.improve_each.Goals as goal

pub loop-objective-init : goal.loop-objective-init
loop-objective-init g c =
    let R = g.O.Recorder in
    record { on = goes_again (R.seen c.args.oracle.now); good = λ front good. (good, refl) }

pub returns-in_err-limits-clause-seeks : goal.returns-in_err-limits-clause-seeks
returns-in_err-limits-clause-seeks g c =
    let R = g.O.Recorder in
    seeks_memory (R.seen c.args.oracle.now) (R.seen c.loop-objective.oracle) c.args.bounds.now c.loop-objective.bounds
    c.from_residual.result c.from_residual.ensures.1 c.loop-objective.invariant.on

pub relaxed_below-requires-clause-good : goal.relaxed_below-requires-clause-good
relaxed_below-requires-clause-good g c =
    let front = c.requires.good in
    (front.0, (c.loop-objective.invariant.good front.0 front.1).0)

pub relaxed_below-requires-clause-problem : goal.relaxed_below-requires-clause-problem
relaxed_below-requires-clause-problem g c = c.loop-objective.invariant.on.problem ∙ c.requires.problem

pub relaxed_below-requires-clause-count : goal.relaxed_below-requires-clause-count
relaxed_below-requires-clause-count g c =
    length-IsBelow c.in-Some.limits c.args.aim.now (rw c.in-Some.is at c.in_ok-limits.ensures)
    ∙ c.requires.count ∙ ap (λ (p : ProblemValue). length p.costs) (sym c.loop-objective.invariant.on.problem)

pub returns-in_err-found-clause-seeks : goal.returns-in_err-found-clause-seeks
returns-in_err-found-clause-seeks g c =
    let R = g.O.Recorder in
    let a = R.seen c.args.oracle.now in
    let m = R.seen c.loop-objective.oracle in
    let b = R.seen c.relaxed_below.new.oracle in
    let was = c.loop-objective.invariant in
    let result = c.from_residual-in_err-found.result in
    seeks_after a m b c.args.bounds.now c.loop-objective.bounds c.relaxed_below.new.bounds result was.good was.on
    (seeks_handed {U = Option Below} m b c.loop-objective.bounds c.relaxed_below.new.bounds result c.in_err-found.field-0.0
    c.from_residual-in_err-found.ensures.1
    c.in_err-found.ensures.seeks)

pub returns-then-not-is_closed-clause-tells : goal.returns-then-not-is_closed-clause-tells
returns-then-not-is_closed-clause-tells g c =
    let R = g.O.Recorder in
    let b = R.seen c.relaxed_below.new.oracle in
    told_of_greater b c.in-Some.limits c.args.aim.now c.in_ok-found.found
    (sym c.if-not-is_closed.ensures)
    (rw c.in-Some.is at c.in_ok-limits.ensures) c.in_ok-found.ensures.tells

pub returns-then-not-is_closed-clause-seeks : goal.returns-then-not-is_closed-clause-seeks
returns-then-not-is_closed-clause-seeks g c =
    let R = g.O.Recorder in
    let a = R.seen c.args.oracle.now in
    let m = R.seen c.loop-objective.oracle in
    let b = R.seen c.relaxed_below.new.oracle in
    let was = c.loop-objective.invariant in
    let call = c.in_ok-found.ensures.seeks in
    seeks_ok a b c.args.bounds.now c.relaxed_below.new.bounds c.in_ok-found.found
    (stays_good_twice a m b c.args.bounds.now c.loop-objective.bounds c.relaxed_below.new.bounds was.on.problem was.good
    (call.good tt)) (goes_twice a m b was.on call.goes_on)

pub loop-objective-preserved : goal.loop-objective-preserved
loop-objective-preserved g c =
    let R = g.O.Recorder in
    let a = R.seen c.args.oracle.now in
    let m = R.seen c.loop-objective.oracle in
    let b = R.seen c.relaxed_below.new.oracle in
    let was = c.loop-objective.invariant in
    let call = c.in_ok-found.ensures.seeks in
    record {
      on = goes_twice a m b was.on call.goes_on;
      good = stays_good_twice a m b c.args.bounds.now c.loop-objective.bounds c.relaxed_below.new.bounds was.on.problem
          was.good (call.good tt);
    }

pub returns-clause-seeks : goal.returns-clause-seeks
returns-clause-seeks g c =
    let R = g.O.Recorder in
    let was = c.loop-objective.invariant in
    seeks_ok (R.seen c.args.oracle.now) (R.seen c.loop-objective.oracle) c.args.bounds.now c.loop-objective.bounds None
    was.good was.on
