use Rattle.std.proofs.Common.{ℕ, ◌-◌, ◌<◌, ◌≤◌, length, get_or}
use Rattle.scut_base.specs.Literal.{Literal}
use Rattle.pb_lin.proofs.cover.place_from.Given as goal

abbrev pub invariant-loop-place : goal.invariant-loop-place
invariant-loop-place l = record {
  within : l.place ≤ length l.c.terms;
  below : (k : ℕ) (d : Literal × ℕ) → k < l.place → (get_or l.c.terms k d).0.var < l.var;
}

abbrev pub decreases-loop-place : goal.decreases-loop-place
decreases-loop-place l = length l.c.terms - l.place
