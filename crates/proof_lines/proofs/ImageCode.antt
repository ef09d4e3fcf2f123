-- How images are spelled tells them apart.
use Rattle.std.proofs.Common.{◌≡◌, ℕ, [], ◌∷◌, ◌++◌, sym, ap, refl, ◌∙◌, arith}
use Rattle.scut_base.proofs.Lists.{head_same, tail_same}
use Rattle.pb_lin.specs.declared.witness.Image.{Image}
use Rattle.pb_lin.specs.declared.witness.Image.TheVariants.{Zero, One, Lit}
use Rattle.proof_laws.specs.WellFormed.{IsImage}
use Rattle.proof_lines.specs.LineText.{image_word, image_words}
use Rattle.proof_lines.specs.Reading.{EndsPart}
use Rattle.proof_lines.specs.Witnessed.{IsImageOf}
use Rattle.proof_lines.proofs.Items.{IsCode, Words}
use Rattle.proof_lines.proofs.Codes.{AnyFollows, heads_apart, one_variable, one_literal, no_literal}

one_image : (i j : Image) → IsImage i → IsImage j → image_word i ≡ image_word j → i ≡ j
one_image Zero Zero left right e = refl
one_image Zero One left right e = absurd (heads_apart 48 49 [] [] refl e)
one_image Zero (Lit m) left right e = absurd (no_literal m (48 ∷ []) (λ first. omega arith) (sym e))
one_image One Zero left right e = absurd (heads_apart 49 48 [] [] refl e)
one_image One One left right e = refl
one_image One (Lit m) left right e = absurd (no_literal m (49 ∷ []) (λ first. omega arith) (sym e))
one_image (Lit l) Zero left right e = absurd (no_literal l (48 ∷ []) (λ first. omega arith) e)
one_image (Lit l) One left right e = absurd (no_literal l (49 ∷ []) (λ first. omega arith) e)
one_image (Lit l) (Lit m) left right e = ap Lit (one_literal l m left right e)

one_pair : (i j : ℕ × Image) (r s : Words) → IsImageOf i → IsImageOf j → image_words i ++ r ≡ image_words j ++ s → (i ≡ j) × (r ≡ s)
one_pair i j r s left right e =
    let after : image_word i.1 ∷ r ≡ image_word j.1 ∷ s = tail_same _ _ _ _ e in
    let var : i.0 ≡ j.0 = one_variable i.0 j.0 left.0 right.0 (head_same _ _ _ _ e) in
    let image : i.1 ≡ j.1 = one_image i.1 j.1 left.1 right.1 (head_same _ _ _ _ after) in
    (ap (λ (v : ℕ). (v, i.1)) var ∙ ap (λ (m : Image). (j.0, m)) image, tail_same _ _ _ _ after)

pub image_code : IsCode image_words IsImageOf AnyFollows EndsPart
image_code = record {
  one = λ i j r s left right first second e. one_pair i j r s left right e;
  joins = λ i j r left right. tt;
  stops = λ i r valid ends. tt;
  no_end = λ i r valid ends. heads_apart 120 58 _ _ refl ends;
}
