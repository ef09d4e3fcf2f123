use Rattle.std.proofs.Common.{◌≡◌, ◌≤◌, List, Bool, take, ◌+ℤ◌, unsigned_abs}
use Rattle.instance.specs.Shape.{terms_magnitude}
use Rattle.pb_lin.specs.NormalForm.{sum_value}
use Rattle.instance_normal.specs.NormalForm.{first_seen}
use Rattle.instance_normal.specs.Merging.{AreVariables, variables, sums_magnitude, sums_value}
use Rattle.instance_normal.proofs.cost.merged.Given as goal

abbrev pub invariant-loop-term : goal.invariant-loop-term
invariant-loop-term l = record {
  keys : variables l.sums.items ≡ l.seen.keys;
  order : l.seen.keys ≡ first_seen (take l.term-index l.terms);
  vars : AreVariables l.seen.keys;
  value : (a : List Bool) → sums_value a l.sums.items +ℤ l.constant ≡ sum_value a (take l.term-index l.terms);
  magnitude : sums_magnitude l.sums.items ≤ terms_magnitude (take l.term-index l.terms);
  constant : unsigned_abs l.constant ≤ terms_magnitude (take l.term-index l.terms);
}
