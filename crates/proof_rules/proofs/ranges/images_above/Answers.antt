use Rattle.std.proofs.Common.{nat_lt, sym, ◌∙◌}
use Rattle.proof_laws.specs.Refusal.{image_variables}
use Rattle.proof_rules.proofs.Searches.{found_here, not_found_here, found_nowhere}
use Rattle.proof_rules.proofs.ranges.images_above.Goals as goal

pub loop-image-preserved : goal.loop-image-preserved
loop-image-preserved c =
    c.loop-image.invariant
    ∙ not_found_here (λ v. nat_lt c.args.n v) image_variables c.args.images.now c.loop-image.image-index c.image-item.result c.image-item.result c.loop-image-test.true c.image-item.is (sym c.image_above.ensures ∙ c.in_default.is)

pub returns-in-Some : goal.returns-in-Some
returns-in-Some c =
    sym
    (c.loop-image.invariant
    ∙ found_here (λ v. nat_lt c.args.n v) image_variables c.args.images.now c.loop-image.image-index c.image-item.result c.image-item.result c.in-Some.var c.loop-image-test.true c.image-item.is (sym c.image_above.ensures ∙ c.in-Some.is))

pub returns : goal.returns
returns c = sym (c.loop-image.invariant ∙ found_nowhere (λ v. nat_lt c.args.n v) image_variables c.args.images.now c.loop-image.image-index c.loop-image-test.false)
