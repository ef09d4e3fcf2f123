use Rattle.cdcl_trail.proofs.UpTo.{IsAbove}
use Rattle.cdcl_trail.proofs.jump.steps_up_to.Given as goal

abbrev pub invariant-loop-keep : goal.invariant-loop-keep
invariant-loop-keep l = IsAbove l.trail l.level l.keep

abbrev pub decreases-loop-keep : goal.decreases-loop-keep
decreases-loop-keep l = l.keep
