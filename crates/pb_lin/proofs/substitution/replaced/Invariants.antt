use Rattle.std.proofs.Common.{◌≡◌, ◌≤◌, ◌<◌, ◌+◌, take, List, Bool, All}
use Rattle.pb_lin.specs.Constraint.{total, value}
use Rattle.pb_lin.specs.Substitution.{value_under}
use Rattle.pb_lin.proofs.substitution.replaced.Given as goal

abbrev pub invariant-loop-term : goal.invariant-loop-term
invariant-loop-term l = record {
  value : (a : List Bool) → value a l.replaced.items + l.met ≡ value_under l.w a (take l.term-index l.terms);
  total : total l.replaced.items + l.met ≤ total (take l.term-index l.terms);
  positive : All (λ t. 0 < t.1) l.replaced.items;
}
