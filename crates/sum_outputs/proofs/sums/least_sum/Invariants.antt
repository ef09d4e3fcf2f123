-- The least so far.
use Rattle.std.proofs.Common.{take}
use Rattle.sum_outputs.specs.Sums.{IsLeastOf}
use Rattle.sum_outputs.proofs.sums.least_sum.Given as goal

abbrev pub invariant-loop-first : goal.invariant-loop-first
invariant-loop-first l = IsLeastOf (take l.first-index l.firsts) l.seconds l.k l.total l.least
