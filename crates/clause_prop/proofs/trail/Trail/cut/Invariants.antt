use Rattle.std.proofs.Common.{◌≡◌, length}
use Rattle.clause_prop.specs.Steps.{cut}
use Rattle.clause_prop.proofs.trail.Trail.cut.Given as goal

abbrev pub invariant-loop-self : goal.invariant-loop-self
invariant-loop-self l = cut l.self l.keep ≡ cut l.initial.self l.keep

abbrev pub decreases-loop-self : goal.decreases-loop-self
decreases-loop-self l = length l.self.steps
