use Rattle.std.proofs.Common.{◌≡◌, ◌≤◌, take, count_by}
use Rattle.scut_base.specs.Assignment.{lit_true}
use Rattle.pb_lin.proofs.evaluate.true_count.Given as goal

abbrev pub invariant-loop-lit : goal.invariant-loop-lit
invariant-loop-lit l = record {
  value : l.count ≡ count_by (lit_true l.a) (take l.lit-index l.lits);
  short : l.count ≤ l.lit-index;
}
