use Rattle.std.proofs.Common.{◌<◌, ℕ, List, sym, subst, ◌∙◌}
use Rattle.std.specs.List.{AllPairs}
use Rattle.std.proofs.lemmas.Bool.{false≢true}
use Rattle.pb_lin.specs.declared.witness.Image.{Image}
use Rattle.proof_lines.specs.LineText.{image_words}
use Rattle.proof_lines.specs.Witnessed.{IsImageOf}
use Rattle.proof_lines.proofs.Codes.{AnyFollows}
use Rattle.proof_lines.proofs.ImageCode.{image_code}
use Rattle.proof_lines.proofs.ItemParts.{only_items}
use Rattle.proof_lines.proofs.images.read_witness.Goals as goal

pub returns-then-not-variables_rise : goal.returns-then-not-variables_rise
returns-then-not-variables_rise c = λ x rest valid ends is.
    let same = only_items image_words IsImageOf AnyFollows image_code c.args.words.now c.read_images.new.words c.in_ok-images.images c.in_ok-images.ensures x rest valid.images ends is in
    absurd (false≢true (c.if-not-variables_rise.ensures.1 (subst (λ (xs : List (ℕ × Image)). AllPairs (λ i j. i.0 < j.0) xs) (same ∙ sym c.as_slice.ensures) valid.rising.rising)))
