use Rattle.std.proofs.Common.{◌≤◌, length}
use Rattle.cutting_planes.proofs.additions.are_many.Given as goal

abbrev pub invariant-loop : goal.invariant-loop
invariant-loop l = l.at ≤ length l.tokens
