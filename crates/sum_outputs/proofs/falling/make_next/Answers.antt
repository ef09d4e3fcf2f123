-- The last of those that were made is the next greater one.
use Rattle.std.proofs.Common.{◌+◌, ◌-◌, ◌<◌, List, length, sym, subst, arith}
use Rattle.std.specs.List.{All}
use Rattle.std.proofs.lemmas.List.Elements.{All-drop}
use Rattle.sum_outputs.specs.Joining.{AreOutputsNow}
use Rattle.sum_outputs.specs.declared.sum_output.SumOutput.{SumOutput}
use Rattle.sum_outputs.proofs.FallingLines.{above_first}
use Rattle.sum_outputs.proofs.MakeLines.{node_weights}
use Rattle.sum_outputs.proofs.falling.make_next.Goals as goal

pub overflow_add-node : goal.overflow_add-node
overflow_add-node g c =
    let R = g.R.Recorder in
    let may = c.requires.may in
    let small = (node_weights (R.seen c.args.rec.now) may.ready c.args.node.now may.inner.children).small in
    let all = c.args.node.now.total in
    omega arith

pub make_output-requires-clause-may : goal.make_output-requires-clause-may
make_output-requires-clause-may g c = c.requires.may

pub make_output-requires-clause-next : goal.make_output-requires-clause-next
make_output-requires-clause-next g c =
    let R = g.R.Recorder in
    subst (λ (os : List SumOutput). AreOutputsNow (R.seen c.args.rec.now) c.args.node.now.terms.now os) (sym c.last_of-next.ensures) c.requires.falling

pub make_output-requires-clause-above : goal.make_output-requires-clause-above
make_output-requires-clause-above g c =
    let node = c.args.node.now in
    above_first node.terms.now c.last_of-next.result.now (node.greatest + 1) c.next_sum-below.result (let all = node.total in omega arith) c.next_sum-below.ensures.none c.next_sum-below.ensures.some

pub make_output-requires-clause-greater : goal.make_output-requires-clause-greater
make_output-requires-clause-greater g c =
    let falling = c.args.falling.now in
    subst (λ (os : List SumOutput). All (λ o. c.args.run.1 < o.sum) os) (sym c.last_of-next.ensures)
    (All-drop (λ o. c.args.run.1 < o.sum) (length falling - 1) falling c.requires.greater)

pub make_output-requires-clause-least : goal.make_output-requires-clause-least
make_output-requires-clause-least g c = c.requires.least

pub returns-clause-recorded : goal.returns-clause-recorded
returns-clause-recorded g c = c.make_output.ensures.recorded

pub returns-clause-made : goal.returns-clause-made
returns-clause-made g c = c.make_output.ensures.made
