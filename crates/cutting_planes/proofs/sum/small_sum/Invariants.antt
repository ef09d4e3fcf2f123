use Rattle.std.proofs.Common.{◌+◌, ◌-◌, ◌≤◌, length, drop}
use Rattle.cutting_planes.proofs.Merge.{IsMerge}
use Rattle.cutting_planes.proofs.sum.small_sum.Given as goal

abbrev pub invariant-loop-i : goal.invariant-loop-i
invariant-loop-i l = record {
  merge : IsMerge l.p.terms l.q.terms l.merged (drop l.i l.p.terms) (drop l.j l.q.terms) l.cancelled;
  within : l.i ≤ length l.p.terms;
  within_too : l.j ≤ length l.q.terms;
}

abbrev pub decreases-loop-i : goal.decreases-loop-i
decreases-loop-i l = (length l.p.terms - l.i) + (length l.q.terms - l.j)
