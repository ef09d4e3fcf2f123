use Rattle.std.proofs.Common.{length}
use Rattle.proof_lines.specs.LineText.{image_words}
use Rattle.proof_lines.specs.Witnessed.{IsImageOf}
use Rattle.proof_lines.proofs.Codes.{AnyFollows}
use Rattle.proof_lines.proofs.Items.{ItemsSoFar}
use Rattle.proof_lines.proofs.images.read_images.Given as goal

abbrev pub invariant-loop-word : goal.invariant-loop-word
invariant-loop-word l = ItemsSoFar image_words IsImageOf AnyFollows l.fn.words l.words l.images

abbrev pub decreases-loop-word : goal.decreases-loop-word
decreases-loop-word l = length l.words
