use Rattle.std.proofs.Common.{ℕ, ◌<◌, List, length, get_or, ap, subst}
use Rattle.scut_base.specs.Literal.{Literal}
use Rattle.pb_lin.specs.Constraint.{ConstraintValue}
use Rattle.pb_lin.proofs.Terms.{terms_of-none}
use Rattle.pb_lin.proofs.Ones.{stored-ones}
use Rattle.pb_lin.proofs.constraint.Constraint.at_least.Goals as goal

pub invariant_of-result : goal.invariant_of-result
invariant_of-result c =
    let first = subst (λ (ls : List Literal). (d : Literal) → 0 < length ls → 0 < (get_or ls 0 d).var) c.as_slice.ensures c.first_variable-first.ensures in
    rw c.ones.ensures (stored-ones c.args.lits c.args.degree c.requires.rising first c.requires.small)

pub returns : goal.returns
returns c =
    rw c.ones.ensures
    (ap (λ (ts : List (Literal × ℕ)). let r : ConstraintValue = record { terms = ts; degree = c.args.degree } in r) (terms_of-none c.args.lits))
