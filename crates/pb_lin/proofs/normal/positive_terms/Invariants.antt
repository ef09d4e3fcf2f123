use Rattle.std.proofs.Common.{◌≡◌, ◌≤◌, ◌<◌, take, List, Bool, All, pos, ◌-ℤ◌, sum_by, unsigned_abs}
use Rattle.pb_lin.specs.Constraint.{total, value}
use Rattle.pb_lin.specs.NormalForm.{sum_value}
use Rattle.pb_lin.proofs.normal.positive_terms.Given as goal

abbrev pub invariant-loop-given : goal.invariant-loop-given
invariant-loop-given l = record {
  value : (a : List Bool) → pos (value a l.positive.items) -ℤ pos l.lowered ≡ sum_value a (take l.given-index l.terms);
  positive : All (λ t. 0 < t.1) l.positive.items;
  total : total l.positive.items ≤ sum_by (λ t. unsigned_abs t.0) (take l.given-index l.terms);
  lowered : l.lowered ≤ sum_by (λ t. unsigned_abs t.0) (take l.given-index l.terms);
}
