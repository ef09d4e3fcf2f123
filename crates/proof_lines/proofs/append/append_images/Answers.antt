use Rattle.proof_lines.specs.LineText.{image_words}
use Rattle.proof_lines.proofs.Appends.{all_put}
use Rattle.proof_lines.proofs.append.append_images.Goals as goal

pub returns : goal.returns
returns c = all_put image_words c.args.images.now c.loop-image.image-index _ _ c.loop-image-test.false c.loop-image.invariant
