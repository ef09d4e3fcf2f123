use Rattle.std.proofs.Common.{◌≡◌, ℕ, ◌<◌, ◌≤◌, take, length, get_or}
use Rattle.scut_base.specs.Literal.{Literal}
use Rattle.pb_lin.specs.Constraint.{total}
use Rattle.pb_lin.specs.Cover.{greatest_excess}
use Rattle.pb_lin.proofs.cover.greatest_excess.Given as goal

abbrev pub invariant-loop-at : goal.invariant-loop-at
invariant-loop-at l = record {
  excess : l.excess ≡ greatest_excess (take l.at l.left.terms) l.right.terms;
  bound : l.excess ≤ total (take l.at l.left.terms);
  within : l.place ≤ length l.right.terms;
  below : (j k : ℕ) (d : Literal × ℕ) → l.at ≤ j → j < length l.left.terms → k < l.place → (get_or l.right.terms k d).0.var < (get_or l.left.terms j d).0.var;
}
