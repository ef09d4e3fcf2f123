use Rattle.std.proofs.Common.{◌≢◌, ℕ, ◌<◌, arith, ap, sym, ◌∙◌, subst, if◌then◌else◌, Bool}
use Rattle.std.specs.List.{All, AllPairs, slice_index_or}
use Rattle.std.proofs.lemmas.List.{get_or_default}
use Rattle.pb_lin.specs.Place.{IsPlace}
use Rattle.pb_lin.specs.declared.witness.Image.{Image}
use Rattle.pb_lin.specs.Substitution.{Images, image_of, image_true, opposite_image}
use Rattle.pb_lin.proofs.Places.{none_at_place}
use Rattle.pb_lin.proofs.Images.{image_of_none, image_of_at, image_of_true}
use Rattle.pb_lin.proofs.witness.Witness.image_of.Goals as goal
use Rattle.pb_lin.proofs.witness.Witness.image_of.Goals.{else-place-images-via-then-place-images+else-images-place, else-place-images-via-else-place-images}

pub returns-then-images-place-clause-value : goal.returns-then-images-place-clause-value
returns-then-images-place-clause-value c =
    let images = c.images-images.result.now in
    let place = subst (λ (v : ℕ). IsPlace {X = ℕ × Image} (λ i. i.0) c.images-images.result.now v c.image_place-place.result) c.var.ensures.value c.image_place-place.ensures in
    let d = c.index-images-place.result in
    let found = image_of_at images c.args.lit c.image_place-place.result d c.if-place-images.true (λ k h e. let b = place.below k d h in omega arith) (c.if-images-place.true ∙ c.var-then-place-images.ensures.value) in
    let same = get_or_default images c.image_place-place.result c.index-images-place-then-images-place.result d c.if-place-images.true in
    c.signed.ensures
    ∙ ap (λ (i : ℕ × Image). if c.is_neg.result then opposite_image i.1 else i.1) same
    ∙ ap (λ (b : Bool). if b then opposite_image (slice_index_or images c.image_place-place.result d).1 else (slice_index_or images c.image_place-place.result d).1) c.is_neg.ensures
    ∙ sym found ∙ ap (λ (is : Images). image_of is c.args.lit) c.images-images.ensures.value

pub returns-then-images-place-clause-truth : goal.returns-then-images-place-clause-truth
returns-then-images-place-clause-truth c = λ a. ap (image_true a) (returns-then-images-place-clause-value c) ∙ image_of_true c.args.self.now a c.args.lit

pub returns-else-place-images-clause-value : goal.returns-else-place-images-clause-value
returns-else-place-images-clause-value c =
    let images = c.images-images.result.now in
    let rising = subst (AllPairs {X = ℕ × Image} (λ i j. i.0 < j.0)) (sym c.images-images.ensures.value) c.images-images.ensures.rising.rising in
    let place = subst (λ (v : ℕ). IsPlace {X = ℕ × Image} (λ i. i.0) c.images-images.result.now v c.image_place-place.result) c.var.ensures.value c.image_place-place.ensures in
    let apart : All (λ (i : ℕ × Image). i.0 ≢ c.args.lit.var) c.images-images.result.now = none_at_place (λ i. i.0) images c.args.lit.var c.image_place-place.result rising place (elim c.else-place-images.branch [
      | else-place-images-via-then-place-images+else-images-place w ↦ λ d short e. let v = ap (λ (i : ℕ × Image). i.0) (get_or_default images c.image_place-place.result w.index-images-place.result d short) in omega arith
      | else-place-images-via-else-place-images w ↦ λ d short e. omega arith
    ]) in
    sym (image_of_none images c.args.lit apart) ∙ ap (λ (is : Images). image_of is c.args.lit) c.images-images.ensures.value

pub returns-else-place-images-clause-truth : goal.returns-else-place-images-clause-truth
returns-else-place-images-clause-truth c = λ a. ap (image_true a) (returns-else-place-images-clause-value c) ∙ image_of_true c.args.self.now a c.args.lit
