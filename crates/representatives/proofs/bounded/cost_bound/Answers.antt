use Rattle.std.proofs.Common.{◌≡◌, ◌-ℤ◌, to_z, of_z, ap, ◌∙◌, arith}
use Rattle.std.specs.Int.{w128}
use Rattle.std.proofs.lemmas.Int.{ints}
use Rattle.instance.specs.Shape.{terms_magnitude}
use Rattle.representatives.proofs.Bounds.{bound_if_form, lowered, lowered_magnitude}
use Rattle.representatives.proofs.bounded.cost_bound.Goals as goal

pub normal_form-requires : goal.normal_form-requires
normal_form-requires c =
    let row = c.terms.ensures.row in
    let terms : c.as_slice.result.now ≡ lowered c.args.row.now.terms = c.as_slice.ensures.value ∙ c.in_ok-terms.ensures ∙ ap lowered c.terms.ensures.value in
    omega (arith, ints, ap terms_magnitude terms, lowered_magnitude c.args.row.now.terms, row.small, row.least, c.requires, c.offset.ensures, c.from.ensures, c.from-2.ensures)

pub returns : goal.returns
returns c =
    let row = c.terms.ensures.row in
    let terms : c.as_slice.result.now ≡ lowered c.args.row.now.terms = c.as_slice.ensures.value ∙ c.in_ok-terms.ensures ∙ ap lowered c.terms.ensures.value in
    let least : to_z w128 (of_z w128 (to_z w128 (of_z w128 c.from.result) -ℤ to_z w128 (of_z w128 c.from-2.result))) ≡ c.args.row.now.offset -ℤ c.args.most = omega (arith, ints, row.least, c.requires, c.offset.ensures, c.from.ensures, c.from-2.ensures) in
    bound_if_form c.normal_form.result c.args.row.now c.args.most c.as_slice.result.now _ terms least c.normal_form.ensures.normal c.normal_form.ensures.form
