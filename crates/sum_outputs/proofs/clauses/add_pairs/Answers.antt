-- The clauses with least partners are added for one output after the other.
use Rattle.std.proofs.Common.{◌≡◌, ◌<◌, [], ◌∷◌, get_or, length, ap, sym, subst, arith}
use Rattle.std.specs.List.{All}
use Rattle.sum_outputs.specs.Outputs.{CanImplyNow}
use Rattle.sum_outputs.specs.Joining.{PairsImply}
use Rattle.sum_outputs.specs.declared.sum_output.SumOutput.{SumOutput}
use Rattle.sum_outputs.proofs.OutputsLater.{before_place, can_later, way_ready}
use Rattle.sum_outputs.proofs.ClauseCalls.{added_none, added_more, adds_all, adds_err, pairs_later}
use Rattle.sum_outputs.proofs.clauses.add_pairs.Goals as goal

pub loop-at-init : goal.loop-at-init
loop-at-init g c =
    let R = g.R.Recorder in
    let a = R.seen c.args.rec.now in
    added_none a (λ o. PairsImply a o c.args.seconds.now c.args.target.now c.args.below) c.args.firsts.now c.requires.ready

pub add_pair-requires-clause-ready : goal.add_pair-requires-clause-ready
add_pair-requires-clause-ready g c =
    let R = g.R.Recorder in
    way_ready (R.seen c.args.rec.now) (R.seen c.loop-at.rec) c.requires.ready c.loop-at.invariant.way

pub add_pair-requires-clause-can : goal.add_pair-requires-clause-can
add_pair-requires-clause-can g c = λ j e short reach.
    let R = g.R.Recorder in
    let a = R.seen c.args.rec.now in
    let x = c.index-firsts-at.result in
    let is = c.index-firsts-at.is in
    let sums : x.sum ≡ (get_or c.args.firsts.now c.loop-at.at x).sum = ap (λ (o : SumOutput). o.sum) is in
    let inside : c.loop-at.at < length c.args.firsts.now = let end = c.place_of-at-end.ensures.bound in omega arith in
    can_later a (R.seen c.loop-at.rec) (x ∷ get_or c.args.seconds.now j e ∷ []) [] c.args.target.now c.requires.ready c.loop-at.invariant.way.on
    (subst (λ (o : SumOutput). CanImplyNow a (o ∷ get_or c.args.seconds.now j e ∷ []) [] c.args.target.now) (sym is) (c.requires.can c.loop-at.at x inside j e short (omega arith)))

pub returns-in_err-add_pair : goal.returns-in_err-add_pair
returns-in_err-add_pair g c =
    let R = g.R.Recorder in
    adds_err (R.seen c.args.rec.now) (R.seen c.loop-at.rec) (R.seen c.add_pair.new.rec) c.in_err-add_pair.field-0.0 c.from_residual.result _
    c.loop-at.invariant.way.on c.in_err-add_pair.ensures.recorded c.from_residual.ensures.1

pub loop-at-preserved : goal.loop-at-preserved
loop-at-preserved g c =
    let R = g.R.Recorder in
    let b = R.seen c.loop-at.rec in
    let d = R.seen c.add_pair.new.rec in
    let call = c.in_ok-add_pair.ensures in
    let seconds = c.args.seconds.now in
    let target = c.args.target.now in
    let below = c.args.below in
    let end = c.place_of-at-end.ensures.bound in
    added_more (R.seen c.args.rec.now) b d (λ o. PairsImply b o seconds target below) (λ o. PairsImply d o seconds target below) c.args.firsts.now c.loop-at.at c.index-firsts-at.result c.requires.ready
    (λ ready on o says. pairs_later b d ready on o seconds target below says) c.loop-at.invariant c.index-firsts-at.is (omega arith) call.recorded call.defines_none call.says

pub returns : goal.returns
returns g c =
    let R = g.R.Recorder in
    let b = R.seen c.loop-at.rec in
    let firsts = c.args.firsts.now in
    let target = c.args.target.now in
    let test = c.loop-at-test.false in
    let Says : SumOutput → Type 0 = λ o. PairsImply b o c.args.seconds.now target c.args.below in
    adds_all (R.seen c.args.rec.now) b Says (All (λ o. o.sum < target.sum → Says o) firsts) firsts c.loop-at.at tt c.loop-at.invariant
    (λ i d short low. c.loop-at.invariant.done i d
    (let end = before_place (λ (o : SumOutput). o.sum) firsts target.sum c.place_of-at-end.result i d c.place_of-at-end.ensures short low in omega arith))
