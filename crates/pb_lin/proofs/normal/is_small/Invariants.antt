use Rattle.std.proofs.Common.{◌≡◌, ◌+◌, ◌-◌, ◌^◌, min, take, sum_by, unsigned_abs}
use Rattle.pb_lin.proofs.normal.is_small.Given as goal

abbrev pub invariant-loop-term : goal.invariant-loop-term
invariant-loop-term l = l.sum ≡ min (sum_by (λ t. unsigned_abs t.0) (take l.term-index l.terms) + unsigned_abs l.degree) (2 ^ 128 - 1)
