use Rattle.std.proofs.Common.{◌≡◌, ◌<◌, take, map, neg_ℤ}
use Rattle.std.specs.Prelude.{All}
use Rattle.instance_normal.proofs.rows.negated.Given as goal

abbrev pub invariant-loop-term : goal.invariant-loop-term
invariant-loop-term l = record {
  value : l.wide.items ≡ map (λ t. (neg_ℤ t.0, t.1)) (take l.term-index l.terms);
  from_one : All (λ t. 0 < t.1.var) l.wide.items;
}
