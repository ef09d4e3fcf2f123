use Rattle.std.proofs.Common.{ℕ, sym, subst, ap, ◌∙◌, ◌<◌}
use Rattle.std.specs.List.{AllPairs}
use Rattle.pb_lin.specs.declared.witness.Image.{Image}
use Rattle.pb_lin.specs.Substitution.{Images, has_image}
use Rattle.pb_lin.proofs.Images.{has_image_at, has_image_past}
use Rattle.pb_lin.proofs.witness.Witness.has_image.Goals as goal

pub returns-then-place-images : goal.returns-then-place-images
returns-then-place-images c =
    let rising = subst (AllPairs {X = ℕ × Image} (λ i j. i.0 < j.0)) (sym c.images-images.ensures.value) c.images-images.ensures.rising.rising in
    has_image_at c.images-images.result.now c.args.var c.image_place-place.result c.index-images-place.result rising c.image_place-place.ensures c.if-place-images.true
    ∙ ap (λ (is : Images). has_image is c.args.var) c.images-images.ensures.value

pub returns-else-place-images : goal.returns-else-place-images
returns-else-place-images c =
    let rising = subst (AllPairs {X = ℕ × Image} (λ i j. i.0 < j.0)) (sym c.images-images.ensures.value) c.images-images.ensures.rising.rising in
    has_image_past c.images-images.result.now c.args.var c.image_place-place.result rising c.image_place-place.ensures c.if-place-images.false
    ∙ ap (λ (is : Images). has_image is c.args.var) c.images-images.ensures.value
