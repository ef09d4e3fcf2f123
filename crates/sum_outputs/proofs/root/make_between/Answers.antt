-- The first of the greater outputs is an output.
use Rattle.std.proofs.Common.{List, sym, subst}
use Rattle.sum_outputs.specs.Joining.{AreOutputsAt}
use Rattle.sum_outputs.specs.declared.sum_output.SumOutput.{SumOutput}
use Rattle.sum_outputs.proofs.AskedLists.{first_outputs}
use Rattle.sum_outputs.proofs.root.make_between.Goals as goal

pub make_output-requires-clause-next : goal.make_output-requires-clause-next
make_output-requires-clause-next g c = λ s reached.
    let R = g.R.Recorder in
    let a = R.seen c.args.rec.now in
    subst (λ (os : List SumOutput). AreOutputsAt a s c.args.node.now.terms.now os) (sym c.first_of-next.ensures) (first_outputs a s c.args.node.now.terms.now c.args.greater.now (c.requires.outputs s reached))
