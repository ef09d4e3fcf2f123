use Rattle.std.proofs.Common.{◌≡◌, ◌∙◌, sym, ap, ◌≤◌, ◌*◌, ◌^◌, ◌+◌, rules, arith}
use Rattle.pb_lin.specs.Constraint.{ConstraintValue, IsNormal, total, size}
use Rattle.cutting_planes.specs.Rules.{multiplied}
use Rattle.cutting_planes.proofs.Terms.{normal-multiplied}
use Rattle.cutting_planes.proofs.scale.multiplied.Goals as goal

pub from_parts-requires : goal.from_parts-requires
from_parts-requires c =
    let whole : ConstraintValue = record { terms = c.c.inside.terms; degree = c.c.inside.degree } in
    let same : total c.c.inside.terms + c.c.inside.degree ≡ c.size.result = ap size c.c.view_is ∙ sym c.size.ensures.value in
    let product : (total c.c.inside.terms + c.c.inside.degree) * c.in_ok-factor.factor ≡ c.size.result * c.in_ok-factor.factor = ap (λ n. n * c.in_ok-factor.factor) same in
    let small : c.size.result * c.in_ok-factor.factor ≤ 2 ^ 100 = search rules in
    let fits : (total c.c.inside.terms + c.c.inside.degree) * c.in_ok-factor.factor ≤ 2 ^ 100 = omega arith in
    let normal : IsNormal (multiplied c.in_ok-factor.factor whole).terms (multiplied c.in_ok-factor.factor whole).degree = normal-multiplied c.in_ok-factor.factor whole c.c.invariant c.in_ok-factor.ensures.from_one fits in
    rw c.multiplied_terms.ensures normal
