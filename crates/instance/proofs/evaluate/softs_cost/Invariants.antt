use Rattle.std.proofs.Common.{◌≡◌, ◌≤◌, take, unsigned_abs}
use Rattle.instance.specs.Shape.{weights_sum}
use Rattle.instance.specs.Meaning.{int_sum_by, soft_cost}
use Rattle.instance.proofs.evaluate.softs_cost.Given as goal

abbrev pub invariant-loop-soft : goal.invariant-loop-soft
invariant-loop-soft l = record {
  value : l.sum ≡ int_sum_by (soft_cost l.a) (take l.soft-index l.softs);
  bound : unsigned_abs l.sum ≤ weights_sum (take l.soft-index l.softs);
}
