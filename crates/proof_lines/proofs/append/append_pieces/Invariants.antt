use Rattle.std.proofs.Common.{◌≡◌, ◌++◌, take}
use Rattle.std.specs.List.{flat_map}
use Rattle.proof_lines.specs.Ids.{piece_word}
use Rattle.proof_lines.specs.Spaces.{after_space}
use Rattle.proof_lines.proofs.append.append_pieces.Given as goal

abbrev pub invariant-loop-piece : goal.invariant-loop-piece
invariant-loop-piece l = l.text.items ≡ l.fn.text.items ++ flat_map (λ p. after_space (piece_word l.fn.spelling p)) (take l.piece-index l.pieces)
