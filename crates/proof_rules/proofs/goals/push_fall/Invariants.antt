use Rattle.std.proofs.Common.{◌≡◌, ◌≤◌, ◌+◌, ◌*◌, take, ℕ, List, Bool, pos, ◌+ℤ◌, ◌-ℤ◌, sum_by, unsigned_abs}
use Rattle.pb_lin.specs.Constraint.{TermsUpTo, total, value}
use Rattle.pb_lin.specs.NormalForm.{sum_value}
use Rattle.pb_lin.specs.Substitution.{value_under}
use Rattle.proof_rules.specs.Verdict.{ImagesUpTo, LiteralsUpTo}
use Rattle.proof_rules.proofs.goals.push_fall.Given as goal

abbrev pub invariant-loop-term : goal.invariant-loop-term
invariant-loop-term l = record {
  value : (a : List Bool) → sum_value a l.terms.items -ℤ pos l.met ≡ sum_value a l.fn.terms.items +ℤ (pos (value a (take l.term-index l.given)) -ℤ pos (value_under l.w a (take l.term-index l.given)));
  met : l.met ≤ total (take l.term-index l.given);
  small : sum_by (λ t. unsigned_abs t.0) l.terms.items ≤ sum_by (λ t. unsigned_abs t.0) l.fn.terms.items + 2 * total (take l.term-index l.given);
  variables : (n : ℕ) → TermsUpTo n l.given → ImagesUpTo n l.w → LiteralsUpTo n l.fn.terms.items → LiteralsUpTo n l.terms.items;
}
