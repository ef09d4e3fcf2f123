use Rattle.std.proofs.Common.{◌≡◌, sum_by, take}
use Rattle.pb_lin.specs.Restriction.{met_value}
use Rattle.search_base.specs.Cutting.{answered_literals}
use Rattle.search_base.proofs.naming.met_by.Given as goal

abbrev pub invariant-loop-term : goal.invariant-loop-term
invariant-loop-term l = l.met ≡ sum_by (met_value (answered_literals l.answers)) (take l.term-index l.row.terms)
