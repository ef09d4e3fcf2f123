use Rattle.std.proofs.Common.{take}
use Rattle.instance_normal.specs.Merging.{StandForSums}
use Rattle.instance_normal.proofs.cost.signed_row.Given as goal

abbrev pub invariant-loop-sum : goal.invariant-loop-sum
invariant-loop-sum l = StandForSums (take l.sum-index l.sums) l.initial.offset l.terms l.offset
