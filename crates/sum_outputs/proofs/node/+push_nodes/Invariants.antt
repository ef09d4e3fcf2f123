-- There are fewer terms.
use Rattle.std.proofs.Common.{length}
use Rattle.sum_outputs.proofs.node.+push_nodes.Given as goal

abbrev pub decreases-push_nodes : goal.decreases-push_nodes
decreases-push_nodes l = length l.terms.now
