use Rattle.std.proofs.Common.{◌≡◌, ℕ, List, map, arith, ap, ◌∙◌}
use Rattle.scut_base.specs.Literal.{Literal}
use Rattle.pb_lin.specs.Constraint.{ConstraintValue, opposite, opposite_terms, total}
use Rattle.pb_lin.proofs.Terms.{stored-opposite, terms_of-opposite}
use Rattle.pb_lin.proofs.constraint.Constraint.opposite.Goals as goal

pub invariant_of-result : goal.invariant_of-result
invariant_of-result c =
    let lits : c.in_ok-lits.lits ≡ map opposite c.self.inside.parts.lits = c.in_ok-lits.ensures ∙ ap (map opposite) c.literals.ensures in
    let view = ap (λ (v : ConstraintValue). total v.terms) c.self.view_is in
    rw (c.in_ok-replaced.ensures, lits) (stored-opposite c.self.inside.parts.lits c.self.inside.parts.coefs c.self.inside.parts.degree c.args.degree c.self.invariant (omega arith))

pub returns : goal.returns
returns c =
    let lits : c.in_ok-lits.lits ≡ map opposite c.self.inside.parts.lits = c.in_ok-lits.ensures ∙ ap (map opposite) c.literals.ensures in
    rw (c.in_ok-replaced.ensures, lits)
    (ap (λ (ts : List (Literal × ℕ)). let r : ConstraintValue = record { terms = ts; degree = c.args.degree } in r)
    (terms_of-opposite c.self.inside.parts.lits c.self.inside.parts.coefs ∙ ap (λ (v : ConstraintValue). opposite_terms v.terms) c.self.view_is))
