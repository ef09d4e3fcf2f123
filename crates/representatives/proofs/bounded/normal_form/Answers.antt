use Rattle.std.proofs.Common.{ℤ, subst}
use Rattle.std.proofs.lemmas.Int.{to_z-of_z}
use Rattle.pb_lin.specs.NormalForm.{IsNormalForm}
use Rattle.representatives.proofs.bounded.normal_form.Goals as goal

pub returns-in-Ok-clause-form : goal.returns-in-Ok-clause-form
returns-in-Ok-clause-form c = subst (λ (z : ℤ). IsNormalForm c.in-Ok.constraint c.args.terms.now z) (to_z-of_z _ _ c.ranges.least) c.in-Ok.ensures.normal_form
