-- What is there, and what is left in reverse, are all.
use Rattle.std.proofs.Common.{◌≡◌, ◌++◌, length, reverse}
use Rattle.sum_outputs.proofs.node_outputs.joined.Given as goal

abbrev pub invariant-loop-output : goal.invariant-loop-output
invariant-loop-output l = l.all ++ reverse l.falling ≡ l.outputs ++ reverse l.fn.falling

abbrev pub decreases-loop-output : goal.decreases-loop-output
decreases-loop-output l = length l.falling
