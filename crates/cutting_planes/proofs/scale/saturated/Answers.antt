use Rattle.std.proofs.Common.{◌∙◌, sym, subst, arith}
use Rattle.pb_lin.specs.Constraint.{ConstraintValue, IsNormal}
use Rattle.cutting_planes.proofs.Terms.{Terms, normal-cut, normal-nil}
use Rattle.cutting_planes.proofs.scale.saturated.Goals as goal
use Rattle.cutting_planes.proofs.scale.saturated.Goals.{then-degree-eq0, else-degree-eq0}

pub from_parts-requires : goal.from_parts-requires
from_parts-requires c =
    let whole : ConstraintValue = record { terms = c.c.inside.terms; degree = c.c.inside.degree } in
    elim c.if-degree-eq0.branch [
      | then-degree-eq0 w ↦ subst (λ (ts : Terms). IsNormal ts c.c.inside.degree) (sym (w.terms-is ∙ w.no_terms-terms.ensures)) (normal-nil c.c.inside.degree (omega arith))
      | else-degree-eq0 w ↦ subst (λ (ts : Terms). IsNormal ts c.c.inside.degree) (sym (w.terms-is ∙ w.cut_terms-terms.ensures)) (normal-cut whole c.c.invariant (omega arith))
    ]
