use Rattle.std.proofs.Common.{◌≡◌, drop}
use Rattle.front_set.specs.Vector.{is_below}
use Rattle.front_set.proofs.cost_vec.CostVec.weakly_dominates.Given as goal

abbrev pub invariant-loop-i : goal.invariant-loop-i
invariant-loop-i l = is_below (drop l.i l.self) (drop l.i l.other) ≡ is_below l.self l.other
