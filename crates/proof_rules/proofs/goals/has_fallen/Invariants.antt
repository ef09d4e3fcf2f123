use Rattle.std.proofs.Common.{◌≡◌, ◌≤◌, ◌*◌, ◌^◌, take, ℕ, List, Bool, pos, ◌-ℤ◌, sum_by, unsigned_abs}
use Rattle.pb_lin.specs.Constraint.{value}
use Rattle.pb_lin.specs.NormalForm.{sum_value}
use Rattle.pb_lin.specs.Substitution.{value_under}
use Rattle.proof_rules.specs.Verdict.{ImagesUpTo, LiteralsUpTo}
use Rattle.proof_rules.proofs.goals.has_fallen.Given as goal

abbrev pub invariant-loop-row : goal.invariant-loop-row
invariant-loop-row l = record {
  value : (a : List Bool) → sum_value a l.terms.items -ℤ pos l.met ≡ pos (sum_by (λ r. value a r.terms) (take l.row-index l.rows)) -ℤ pos (sum_by (λ r. value_under l.w a r.terms) (take l.row-index l.rows));
  met : l.met ≤ l.row-index * 2 ^ 63;
  small : sum_by (λ t. unsigned_abs t.0) l.terms.items ≤ l.row-index * 2 ^ 64;
  variables : (n : ℕ) → l.problem.vars ≤ n → ImagesUpTo n l.w → LiteralsUpTo n l.terms.items;
}
