-- The nodes are those that were put.
use Rattle.std.proofs.Common.{List, subst}
use Rattle.sum_outputs.specs.Tree.{IsGrown}
use Rattle.sum_outputs.specs.declared.node.Node.{Node}
use Rattle.totalizer.proofs.NewTotalizer.{nodes_grown}
use Rattle.totalizer.proofs.building.nodes_of.Goals as goal

pub returns : goal.returns
returns c =
    let nodes = c.push_nodes.new.nodes in
    let terms = c.args.terms.now in
    let root = c.in_ok-_root._root in
    nodes_grown nodes terms root
    (subst (λ (ns : List Node). IsGrown ns nodes terms root) c.new-nodes.ensures c.in_ok-_root.ensures)
