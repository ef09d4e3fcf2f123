use Rattle.std.proofs.Common.{◌≡◌, ◌++◌, take}
use Rattle.std.specs.List.{flat_map}
use Rattle.proof_lines.specs.LineText.{image_words}
use Rattle.proof_lines.specs.Spaces.{after_spaces}
use Rattle.proof_lines.proofs.append.append_images.Given as goal

abbrev pub invariant-loop-image : goal.invariant-loop-image
invariant-loop-image l = l.text.items ≡ l.fn.text.items ++ flat_map (λ i. after_spaces (image_words i)) (take l.image-index l.images)
