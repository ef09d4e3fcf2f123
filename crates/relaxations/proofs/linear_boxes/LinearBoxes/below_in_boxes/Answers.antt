-- Each call keeps what the ones before it kept.
use Rattle.std.proofs.Common.{◌∙◌, None, Option, length, ap, refl, sym}
use Rattle.pb_lin.specs.Problem.{ProblemValue}
use Rattle.search_base.proofs.Turning.{goes_again, goes_twice}
use Rattle.relaxations.specs.declared.below.Below.{Below}
use Rattle.relaxations.proofs.Calls.{seeks_after, seeks_handed, seeks_nothing, seeks_ok, stays_good_twice}
use Rattle.relaxations.proofs.linear_boxes.LinearBoxes.below_in_boxes.Goals as goal

pub returns-then-is_empty-clause-seeks : goal.returns-then-is_empty-clause-seeks
returns-then-is_empty-clause-seeks g c = seeks_nothing (g.O.Recorder.seen c.args.oracle.now) c.args.bounds.now None

pub loop-place-init : goal.loop-place-init
loop-place-init g c =
    let R = g.O.Recorder in
    record { on = goes_again (R.seen c.args.oracle.now); good = λ front good. (good, refl) }

pub below_in_box-requires-clause-good : goal.below_in_box-requires-clause-good
below_in_box-requires-clause-good g c =
    let front = c.requires.good in
    (front.0, (c.loop-place.invariant.good front.0 front.1).0)

pub below_in_box-requires-clause-problem : goal.below_in_box-requires-clause-problem
below_in_box-requires-clause-problem g c = c.loop-place.invariant.on.problem ∙ c.requires.problem

pub returns-in_err-found-clause-seeks : goal.returns-in_err-found-clause-seeks
returns-in_err-found-clause-seeks g c =
    let R = g.O.Recorder in
    let a = R.seen c.args.oracle.now in
    let m = R.seen c.loop-place.oracle in
    let b = R.seen c.below_in_box.new.oracle in
    let was = c.loop-place.invariant in
    let result = c.from_residual.result in
    seeks_after a m b c.args.bounds.now c.loop-place.bounds c.below_in_box.new.bounds result was.good was.on
    (seeks_handed {U = Option Below} m b c.loop-place.bounds c.below_in_box.new.bounds result c.in_err-found.field-0.0
    c.from_residual.ensures.1 c.in_err-found.ensures.seeks)

pub returns-then-is_some-clause-seeks : goal.returns-then-is_some-clause-seeks
returns-then-is_some-clause-seeks g c =
    let R = g.O.Recorder in
    let a = R.seen c.args.oracle.now in
    let m = R.seen c.loop-place.oracle in
    let b = R.seen c.below_in_box.new.oracle in
    let was = c.loop-place.invariant in
    let call = c.in_ok-found.ensures.seeks in
    seeks_ok a b c.args.bounds.now c.below_in_box.new.bounds c.in_ok-found.found
    (stays_good_twice a m b c.args.bounds.now c.loop-place.bounds c.below_in_box.new.bounds was.on.problem was.good
    (call.good tt)) (goes_twice a m b was.on call.goes_on)

pub loop-place-preserved : goal.loop-place-preserved
loop-place-preserved g c =
    let R = g.O.Recorder in
    let a = R.seen c.args.oracle.now in
    let m = R.seen c.loop-place.oracle in
    let b = R.seen c.below_in_box.new.oracle in
    let was = c.loop-place.invariant in
    let call = c.in_ok-found.ensures.seeks in
    record {
      on = goes_twice a m b was.on call.goes_on;
      good = stays_good_twice a m b c.args.bounds.now c.loop-place.bounds c.below_in_box.new.bounds was.on.problem
          was.good (call.good tt);
    }

pub returns-clause-seeks : goal.returns-clause-seeks
returns-clause-seeks g c =
    let R = g.O.Recorder in
    let was = c.loop-place.invariant in
    seeks_ok (R.seen c.args.oracle.now) (R.seen c.loop-place.oracle) c.args.bounds.now c.loop-place.bounds None
    was.good was.on

pub below_in_box-requires-clause-count : goal.below_in_box-requires-clause-count
below_in_box-requires-clause-count g c =
    c.requires.count ∙ ap (λ (p : ProblemValue). length p.costs) (sym c.loop-place.invariant.on.problem)
