use Rattle.std.proofs.Common.{◌≡◌, take}
use Rattle.relaxations.proofs.row_totalizers.weights_of.Given as goal

abbrev pub invariant-loop-at : goal.invariant-loop-at
invariant-loop-at l = l.terms ≡ take l.at l.sum.terms
