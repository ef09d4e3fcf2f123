-- The output is made, tied and put at its place.
use Rattle.std.proofs.Common.{◌-◌, List, [], ◌∷◌, length, take, sym, subst, arith}
use Rattle.std.proofs.lemmas.List.{take_rest}
use Rattle.std.specs.List.{All}
use Rattle.sum_outputs.specs.Outputs.{CanImplyNow}
use Rattle.sum_outputs.specs.Falling.{IsAsked}
use Rattle.sum_outputs.specs.Joining.{AreOutputsAt}
use Rattle.sum_outputs.specs.declared.sum_output.SumOutput.{SumOutput}
use Rattle.sum_outputs.proofs.LaterStates.{continues_twice, handed_err, memory_err, ready_later, recorded_ok}
use Rattle.sum_outputs.proofs.MakeLines.{node_weights}
use Rattle.sum_outputs.proofs.AskedLists.{implies_smaller, is_asked, rest_outputs}
use Rattle.sum_outputs.proofs.root.ask_anew.Goals as goal

pub make_between-requires-clause-outputs : goal.make_between-requires-clause-outputs
make_between-requires-clause-outputs g c = λ s reached.
    let R = g.R.Recorder in
    let a = R.seen c.args.rec.now in
    let terms = c.args.node.now.terms.now in
    subst (λ (os : List SumOutput). AreOutputsAt a s terms os) (sym (take_rest c.args.outputs.now c.args.place))
    (rest_outputs a s terms c.args.outputs.now c.args.place (c.requires.outputs.outputs s reached))

pub tie_one-requires-clause-ready : goal.tie_one-requires-clause-ready
tie_one-requires-clause-ready g c =
    let R = g.R.Recorder in
    let a = R.seen c.args.rec.now in
    let b = R.seen c.make_between.new.rec in
    let made = c.in_ok-made.ensures in
    let ready_b = ready_later a b c.requires.may.ready made.recorded.continues made.recorded.whole in
    ready_b

pub tie_one-requires-clause-can : goal.tie_one-requires-clause-can
tie_one-requires-clause-can g c =
    let R = g.R.Recorder in
    let a = R.seen c.args.rec.now in
    let b = R.seen c.make_between.new.rec in
    let made = c.in_ok-made.ensures in
    let ready_b = ready_later a b c.requires.may.ready made.recorded.continues made.recorded.whole in
    let weights = node_weights a c.requires.may.ready c.args.node.now c.requires.may.inner.children in
    subst (λ (os : List SumOutput). All (CanImplyNow b (c.in_ok-made.made ∷ []) []) os) (sym c.last_of.ensures)
    (λ i e short. implies_smaller a b c.requires.may.ready made.recorded.continues c.args.node.now.terms.now weights c.args.outputs.now c.requires.outputs.outputs c.requires.outputs.defined c.args.sum c.args.place c.requires.place c.in_ok-made.made made.made.sum made.made.new (length (take c.args.place c.args.outputs.now) - 1) i e short)

pub returns-in_err-tie_one-clause-recorded : goal.returns-in_err-tie_one-clause-recorded
returns-in_err-tie_one-clause-recorded g c =
    let R = g.R.Recorder in
    let a = R.seen c.args.rec.now in
    let b = R.seen c.make_between.new.rec in
    let made = c.in_ok-made.ensures in
    let ready_b = ready_later a b c.requires.may.ready made.recorded.continues made.recorded.whole in
    let d = R.seen c.tie_one.new.rec in
    handed_err a b d c.in_err-tie_one.field-0.0 c.from_residual-in_err-tie_one.result made.recorded.continues c.in_err-tie_one.ensures.recorded c.from_residual-in_err-tie_one.ensures.1

pub returns-in_err-all-clause-recorded : goal.returns-in_err-all-clause-recorded
returns-in_err-all-clause-recorded g c =
    let R = g.R.Recorder in
    let a = R.seen c.args.rec.now in
    let b = R.seen c.make_between.new.rec in
    let made = c.in_ok-made.ensures in
    let ready_b = ready_later a b c.requires.may.ready made.recorded.continues made.recorded.whole in
    let d = R.seen c.tie_one.new.rec in
    memory_err a d c.from_residual-in_err-all.result (continues_twice a b d made.recorded.continues c.in_ok-tie_one.ensures.recorded.continues) c.from_residual-in_err-all.ensures.1

pub returns-clause-recorded : goal.returns-clause-recorded
returns-clause-recorded g c =
    let R = g.R.Recorder in
    let a = R.seen c.args.rec.now in
    let b = R.seen c.make_between.new.rec in
    let made = c.in_ok-made.ensures in
    let ready_b = ready_later a b c.requires.may.ready made.recorded.continues made.recorded.whole in
    let d = R.seen c.tie_one.new.rec in
    recorded_ok a d _ (continues_twice a b d made.recorded.continues c.in_ok-tie_one.ensures.recorded.continues) c.in_ok-tie_one.ensures.recorded.whole

pub returns-clause-asked : goal.returns-clause-asked
returns-clause-asked g c =
    let R = g.R.Recorder in
    let a = R.seen c.args.rec.now in
    let b = R.seen c.make_between.new.rec in
    let made = c.in_ok-made.ensures in
    let ready_b = ready_later a b c.requires.may.ready made.recorded.continues made.recorded.whole in
    let weights = node_weights a c.requires.may.ready c.args.node.now c.requires.may.inner.children in
    let d = R.seen c.tie_one.new.rec in
    subst (λ (os : List SumOutput). IsAsked a d c.args.node.now.terms.now c.args.outputs.now c.args.k c.in_ok-made.made os)
    (sym c.in_ok-all.ensures)
    (is_asked a b c.requires.may.ready made.recorded.continues c.args.node.now.terms.now weights c.args.outputs.now c.requires.outputs.outputs c.requires.outputs.defined c.args.sum c.args.place c.requires.place c.in_ok-made.made made.made.sum made.made.new d ready_b c.in_ok-tie_one.ensures.recorded.continues c.requires.absent c.args.k c.requires.least made.made.from (let one = made.made.one in let none = c.in_ok-tie_one.ensures.defines_none in omega arith))
