use Rattle.std.proofs.Common.{◌≡◌, length}
use Rattle.relaxations.proofs.extending.extended.Given as goal

abbrev pub invariant-loop-id : goal.invariant-loop-id
invariant-loop-id l = length l.a ≡ length l.initial.a
