use Rattle.std.proofs.Common.{◌≡◌, take, filter, not, sum_by}
use Rattle.pb_lin.specs.Restriction.{is_set, met_value}
use Rattle.pb_lin.proofs.restriction.terms_left.Given as goal

abbrev pub invariant-loop-term : goal.invariant-loop-term
invariant-loop-term l = record {
  kept : l.kept ≡ filter (λ t. not (is_set l.truths t.0.var)) (take l.term-index l.terms);
  met : l.met ≡ sum_by (met_value l.truths) (take l.term-index l.terms);
}
