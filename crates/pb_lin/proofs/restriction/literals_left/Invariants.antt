use Rattle.std.proofs.Common.{◌≡◌, ◌≤◌, take, filter, not, count_by}
use Rattle.pb_lin.specs.Restriction.{is_set, is_among}
use Rattle.pb_lin.proofs.restriction.literals_left.Given as goal

abbrev pub invariant-loop-literal : goal.invariant-loop-literal
invariant-loop-literal l = record {
  kept : l.kept ≡ filter (λ m. not (is_set l.truths m.var)) (take l.literal-index l.literals);
  met : l.met ≡ count_by (is_among l.truths) (take l.literal-index l.literals);
  short : l.met ≤ l.literal-index;
}
