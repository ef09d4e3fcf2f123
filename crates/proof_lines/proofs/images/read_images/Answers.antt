use Rattle.std.proofs.Common.{◌∙◌}
use Rattle.proof_lines.specs.LineText.{image_words}
use Rattle.proof_lines.specs.Witnessed.{IsImageOf}
use Rattle.proof_lines.proofs.Codes.{AnyFollows}
use Rattle.proof_lines.proofs.ImageCode.{image_code}
use Rattle.proof_lines.proofs.ItemParts.{item_pushed, item_wrong}
use Rattle.proof_lines.proofs.images.read_images.Goals as goal

pub loop-word-preserved : goal.loop-word-preserved
loop-word-preserved c =
    item_pushed image_words IsImageOf AnyFollows c.args.words.now c.loop-word.words c.take_image.new.words c.loop-word.images c.push.new.self c.in-Some-take_image.image c.loop-word.invariant
    c.in-Some-take_image.ensures.0 (c.in-Some.ensures.0 ∙ c.in-Some-take_image.ensures.1) tt c.in_ok-push-in-Some-take_image.ensures.ok

pub returns-in-None : goal.returns-in-None
returns-in-None c =
    item_wrong image_words IsImageOf AnyFollows image_code c.args.words.now c.loop-word.words c.next_in_part.new.self c.take_image.new.words c.loop-word.images c.in-Some.word.now c.loop-word.invariant
    c.in-Some.ensures.0 c.in-Some.ensures.1 c.in-None.ensures
