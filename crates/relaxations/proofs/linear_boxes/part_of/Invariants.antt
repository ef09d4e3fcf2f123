-- No limit has risen.
use Rattle.front_set.specs.Vector.{IsBelow}
use Rattle.relaxations.proofs.linear_boxes.part_of.Given as goal

abbrev pub invariant-loop-objective : goal.invariant-loop-objective
invariant-loop-objective l = IsBelow l.part l.limits
