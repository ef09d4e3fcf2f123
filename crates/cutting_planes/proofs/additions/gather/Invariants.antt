use Rattle.std.proofs.Common.{◌-◌, ◌≤◌, length}
use Rattle.cutting_planes.proofs.additions.gather.Given as goal

abbrev pub invariant-loop-next : goal.invariant-loop-next
invariant-loop-next l = l.end ≤ length l.tokens

abbrev pub decreases-loop-next : goal.decreases-loop-next
decreases-loop-next l = length l.tokens - l.end
