-- The nodes so far have theirs.
use Rattle.std.proofs.Common.{◌≡◌, map, take}
use Rattle.totalizer.specs.Totalizing.{first_outputs}
use Rattle.totalizer.proofs.building.first_lists.Given as goal

abbrev pub invariant-loop-node : goal.invariant-loop-node
invariant-loop-node l = l.made ≡ map (λ n. first_outputs n.terms) (take l.node-index l.nodes)
