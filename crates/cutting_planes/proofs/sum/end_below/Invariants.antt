use Rattle.std.proofs.Common.{ℕ, ◌-◌, ◌<◌, ◌≤◌, length, get_or}
use Rattle.scut_base.specs.Literal.{Literal}
use Rattle.cutting_planes.proofs.sum.end_below.Given as goal

abbrev pub invariant-loop-end : goal.invariant-loop-end
invariant-loop-end l = record {
  past : l.from < l.end;
  bound : l.end ≤ length l.terms;
  below : (k : ℕ) (d : Literal × ℕ) → l.from ≤ k → k < l.end → (get_or l.terms k d).0.var < l.var;
}

abbrev pub decreases-loop-end : goal.decreases-loop-end
decreases-loop-end l = length l.terms - l.end
