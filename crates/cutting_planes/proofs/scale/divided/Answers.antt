use Rattle.pb_lin.specs.Constraint.{ConstraintValue, IsNormal}
use Rattle.cutting_planes.specs.Rules.{divided}
use Rattle.cutting_planes.proofs.Terms.{normal-divided}
use Rattle.cutting_planes.proofs.scale.divided.Goals as goal

pub from_parts-requires : goal.from_parts-requires
from_parts-requires c =
    let whole : ConstraintValue = record { terms = c.c.inside.terms; degree = c.c.inside.degree } in
    let normal : IsNormal (divided c.in_ok-divisor.divisor whole).terms (divided c.in_ok-divisor.divisor whole).degree = normal-divided c.in_ok-divisor.divisor whole c.c.invariant c.in_ok-divisor.ensures.from_one in
    rw (c.divided_terms.ensures, c.rounded_up-degree.ensures) normal
