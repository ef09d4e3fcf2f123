use Rattle.std.proofs.Common.{◌-◌, ◌≤◌, length}
use Rattle.pb_lin.specs.Given.{given_of}
use Rattle.cutting_planes.proofs.Truth.{Continues}
use Rattle.cutting_planes.proofs.evaluation.evaluate.Given as goal

abbrev pub invariant-loop-at : goal.invariant-loop-at
invariant-loop-at l = record {
  bound : l.at ≤ length l.tokens;
  continues : Continues (given_of l.lines l.negated l.denied) l.tokens l.stack l.at;
}

abbrev pub decreases-loop-at : goal.decreases-loop-at
decreases-loop-at l = length l.tokens - l.at
