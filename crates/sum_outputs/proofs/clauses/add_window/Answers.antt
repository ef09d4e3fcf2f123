-- The clauses of outputs alone and then of pairs.
use Rattle.std.proofs.Common.{[], ◌∷◌, get_or, arith}
use Rattle.sum_outputs.specs.Joining.{AreImplying}
use Rattle.sum_outputs.proofs.LaterStates.{ready_later, continues_twice}
use Rattle.sum_outputs.proofs.OutputsLater.{can_later}
use Rattle.sum_outputs.proofs.ClauseCalls.{adds_after, adds_err, singles_later}
use Rattle.sum_outputs.proofs.JoinLines.{first_can, second_can, pair_can}
use Rattle.sum_outputs.proofs.clauses.add_window.Goals as goal

pub add_single-requires-clause-can : goal.add_single-requires-clause-can
add_single-requires-clause-can g c = λ k d short reach s reached.
    let R = g.R.Recorder in
    let a = R.seen c.args.rec.now in
    first_can a s c.args.node.now.first.terms.now c.args.node.now.second.terms.now c.args.node.now.first.outputs.now c.args.node.now.second.outputs.now c.args.target.now (c.requires.children s reached) (c.requires.target s reached) k d short reach

pub add_single-requires-2-clause-ready : goal.add_single-requires-2-clause-ready
add_single-requires-2-clause-ready g c =
    let R = g.R.Recorder in
    let a = R.seen c.args.rec.now in
    let b = R.seen c.add_single.new.rec in
    ready_later a b c.requires.ready c.in_ok-add_single.ensures.recorded.continues c.in_ok-add_single.ensures.recorded.whole

pub add_single-requires-2-clause-can : goal.add_single-requires-2-clause-can
add_single-requires-2-clause-can g c = λ k d short reach.
    let R = g.R.Recorder in
    let a = R.seen c.args.rec.now in
    let b = R.seen c.add_single.new.rec in
    can_later a b (get_or c.args.node.now.second.outputs.now k d ∷ []) c.args.node.now.first.terms.now c.args.target.now c.requires.ready c.in_ok-add_single.ensures.recorded.continues
    (λ s reached. second_can a s c.args.node.now.first.terms.now c.args.node.now.second.terms.now c.args.node.now.first.outputs.now c.args.node.now.second.outputs.now c.args.target.now (c.requires.children s reached) (c.requires.target s reached) k d short reach)

pub returns-in_err-add_single-2 : goal.returns-in_err-add_single-2
returns-in_err-add_single-2 g c =
    let R = g.R.Recorder in
    adds_err (R.seen c.args.rec.now) (R.seen c.add_single.new.rec) (R.seen c.add_single-2.new.rec) c.in_err-add_single-2.field-0.0 c.from_residual-in_err-add_single-2.result _
    c.in_ok-add_single.ensures.recorded.continues c.in_err-add_single-2.ensures.recorded c.from_residual-in_err-add_single-2.ensures.1

pub add_pairs-requires-clause-ready : goal.add_pairs-requires-clause-ready
add_pairs-requires-clause-ready g c =
    let R = g.R.Recorder in
    let a = R.seen c.args.rec.now in
    let b = R.seen c.add_single.new.rec in
    let d = R.seen c.add_single-2.new.rec in
    let on = continues_twice a b d c.in_ok-add_single.ensures.recorded.continues c.in_ok-add_single-2.ensures.recorded.continues in
    ready_later a d c.requires.ready on c.in_ok-add_single-2.ensures.recorded.whole

pub add_pairs-requires-clause-can : goal.add_pairs-requires-clause-can
add_pairs-requires-clause-can g c = λ i m short j e short' reach.
    let R = g.R.Recorder in
    let a = R.seen c.args.rec.now in
    let b = R.seen c.add_single.new.rec in
    let d = R.seen c.add_single-2.new.rec in
    let on = continues_twice a b d c.in_ok-add_single.ensures.recorded.continues c.in_ok-add_single-2.ensures.recorded.continues in
    can_later a d (get_or c.args.node.now.first.outputs.now i m ∷ get_or c.args.node.now.second.outputs.now j e ∷ []) [] c.args.target.now c.requires.ready on
    (λ s reached. pair_can a s c.args.node.now.first.terms.now c.args.node.now.second.terms.now c.args.node.now.first.outputs.now c.args.node.now.second.outputs.now c.args.target.now (c.requires.children s reached) (c.requires.target s reached) i m j e short short' reach)

pub returns : goal.returns
returns g c =
    let R = g.R.Recorder in
    let a = R.seen c.args.rec.now in
    let b = R.seen c.add_single.new.rec in
    let d = R.seen c.add_single-2.new.rec in
    let h = R.seen c.add_pairs.new.rec in
    let one = c.in_ok-add_single.ensures in
    let two = c.in_ok-add_single-2.ensures in
    let on = continues_twice a b d one.recorded.continues two.recorded.continues in
    let ready_b = ready_later a b c.requires.ready one.recorded.continues one.recorded.whole in
    let ready_d = ready_later a d c.requires.ready on two.recorded.whole in
    let on_h = c.add_pairs.ensures.recorded.continues in
    let node = c.args.node.now in
    let target = c.args.target.now in
    let below = c.args.below in
    adds_after a d h c.add_pairs.result _ (AreImplying h node target below) on (let first = one.defines_none in let second = two.defines_none in omega arith)
    (λ pairs. record {
      by_firsts = singles_later d h ready_d on_h node.first.outputs.now target below (singles_later b d ready_b two.recorded.continues node.first.outputs.now target below one.says);
      by_seconds = singles_later d h ready_d on_h node.second.outputs.now target below two.says;
      by_pairs = pairs;
    }) c.add_pairs.ensures
