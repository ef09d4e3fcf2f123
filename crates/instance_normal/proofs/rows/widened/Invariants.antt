use Rattle.std.proofs.Common.{◌≡◌, ◌<◌, take}
use Rattle.std.specs.Prelude.{All}
use Rattle.instance_normal.proofs.rows.widened.Given as goal

abbrev pub invariant-loop-term : goal.invariant-loop-term
invariant-loop-term l = record {
  value : l.wide.items ≡ take l.term-index l.terms;
  from_one : All (λ t. 0 < t.1.var) l.wide.items;
}
