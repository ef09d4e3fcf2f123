-- One smaller output after the other.
use Rattle.std.proofs.Common.{◌-◌, ◌^◌, [], ◌∷◌, get_or, sym, subst, arith}
use Rattle.std.specs.List.{All}
use Rattle.sum_outputs.specs.Outputs.{CanImplyNow}
use Rattle.sum_outputs.specs.Joining.{SinglesImply}
use Rattle.sum_outputs.specs.declared.sum_output.SumOutput.{SumOutput}
use Rattle.sum_outputs.proofs.OutputsLater.{can_later, way_ready}
use Rattle.sum_outputs.proofs.ClauseCalls.{added_none, added_more, adds_all, adds_err, singles_later}
use Rattle.sum_outputs.proofs.node_outputs.tie.Goals as goal

pub loop-at-init : goal.loop-at-init
loop-at-init g c =
    let R = g.R.Recorder in
    let a = R.seen c.args.rec.now in
    added_none a (λ o. SinglesImply a c.args.greater.now o (2 ^ 64 - 1)) c.args.smaller.now c.requires.ready

pub add_single-requires-clause-ready : goal.add_single-requires-clause-ready
add_single-requires-clause-ready g c =
    let R = g.R.Recorder in
    way_ready (R.seen c.args.rec.now) (R.seen c.loop-at.rec) c.requires.ready c.loop-at.invariant.way

pub add_single-requires-clause-can : goal.add_single-requires-clause-can
add_single-requires-clause-can g c = λ k e short reach.
    let R = g.R.Recorder in
    let a = R.seen c.args.rec.now in
    let x = c.index-smaller-at.result in
    can_later a (R.seen c.loop-at.rec) (get_or c.args.greater.now k e ∷ []) [] x c.requires.ready c.loop-at.invariant.way.on
    (subst (λ (o : SumOutput). CanImplyNow a (get_or c.args.greater.now k e ∷ []) [] o) (sym c.index-smaller-at.is) (c.requires.can c.loop-at.at x (omega arith) k e short))

pub returns-in_err-add_single : goal.returns-in_err-add_single
returns-in_err-add_single g c =
    let R = g.R.Recorder in
    adds_err (R.seen c.args.rec.now) (R.seen c.loop-at.rec) (R.seen c.add_single.new.rec) c.in_err-add_single.field-0.0 c.from_residual.result _
    c.loop-at.invariant.way.on c.in_err-add_single.ensures.recorded c.from_residual.ensures.1

pub loop-at-preserved : goal.loop-at-preserved
loop-at-preserved g c =
    let R = g.R.Recorder in
    let b = R.seen c.loop-at.rec in
    let d = R.seen c.add_single.new.rec in
    let call = c.in_ok-add_single.ensures in
    let greater = c.args.greater.now in
    let most = 2 ^ 64 - 1 in
    added_more (R.seen c.args.rec.now) b d (λ o. SinglesImply b greater o most) (λ o. SinglesImply d greater o most) c.args.smaller.now c.loop-at.at c.index-smaller-at.result c.requires.ready
    (λ ready on o says. singles_later b d ready on greater o most says) c.loop-at.invariant c.index-smaller-at.is (omega arith) call.recorded call.defines_none call.says

pub returns : goal.returns
returns g c =
    let R = g.R.Recorder in
    let b = R.seen c.loop-at.rec in
    let smaller = c.args.smaller.now in
    let end = c.loop-at-test.false in
    let Says : SumOutput → Type 0 = λ o. SinglesImply b c.args.greater.now o (2 ^ 64 - 1) in
    adds_all (R.seen c.args.rec.now) b Says (All Says smaller) smaller c.loop-at.at tt c.loop-at.invariant
    (λ i d short. c.loop-at.invariant.done i d (omega arith))
