-- The sums so far.
use Rattle.std.proofs.Common.{◌≡◌, take}
use Rattle.sum_outputs.specs.Outputs.{sums}
use Rattle.sum_outputs.proofs.clause.sum_of.Given as goal

abbrev pub invariant-loop-part : goal.invariant-loop-part
invariant-loop-part l = l.sum ≡ sums (take l.part-index l.parts)
