-- Its outputs are those of its leaves.
use Rattle.std.proofs.Common.{◌≡◌, List, map, ap, sym, subst, ◌∙◌}
use Rattle.sum_outputs.specs.declared.node.Node.{Node}
use Rattle.sum_outputs.specs.declared.sum_output.SumOutput.{SumOutput}
use Rattle.totalizer.specs.Totalizing.{first_outputs, Fits}
use Rattle.totalizer.proofs.AskedTotalizer.{totalizer_of}
use Rattle.totalizer.proofs.NewTotalizer.{new_fits}
use Rattle.totalizer.proofs.totalizer.Totalizer.build.Goals as goal

pub returns-clause-fits : goal.returns-clause-fits
returns-clause-fits c = λ a has.
    let nodes = c.in_ok-nodes.nodes in
    let made : c.in_ok-made.made ≡ map (λ (n : Node). first_outputs n.terms) nodes = c.in_ok-made.ensures
    ∙ ap (λ (ns : List Node). map (λ (n : Node). first_outputs n.terms) ns) c.as_slice.ensures in
    subst (λ (ms : List (List SumOutput)). Fits a (totalizer_of nodes ms)) (sym made)
    (new_fits c.args.terms.now nodes c.in_ok-nodes.ensures a has)
