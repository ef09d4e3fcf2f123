use Rattle.std.proofs.Common.{ℤ, subst}
use Rattle.std.proofs.lemmas.Int.{to_z-of_z}
use Rattle.pb_lin.specs.NormalForm.{IsNormalForm}
use Rattle.instance_normal.proofs.Sizes.{sum_fits}
use Rattle.instance_normal.proofs.rows.sum_row.Goals as goal

pub returns-in-Ok-clause-fits : goal.returns-in-Ok-clause-fits
returns-in-Ok-clause-fits c =
    let form = subst (λ (z : ℤ). IsNormalForm c.in-Ok.row c.args.terms.now z) (to_z-of_z _ _ c.ranges.bound) c.in-Ok.ensures.normal_form in
    λ n upto. sum_fits n c.args.terms.now c.args.bound c.in-Ok.row c.degree-normal.ensures.normal form c.requires.small c.requires.from_one upto
