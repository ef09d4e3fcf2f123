use Rattle.std.proofs.Common.{◌≡◌, length}
use Rattle.relaxations.proofs.extending.assigned.Given as goal

abbrev pub invariant-loop-lit : goal.invariant-loop-lit
invariant-loop-lit l = length l.a ≡ l.vars
