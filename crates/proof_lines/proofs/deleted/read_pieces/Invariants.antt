use Rattle.std.proofs.Common.{length}
use Rattle.proof_lines.specs.Ids.{piece_word}
use Rattle.proof_lines.specs.Pieces.{IsPiece}
use Rattle.proof_lines.proofs.WordParts.{WordsSoFar}
use Rattle.proof_lines.proofs.deleted.read_pieces.Given as goal

abbrev pub invariant-loop-word : goal.invariant-loop-word
invariant-loop-word l = WordsSoFar (piece_word l.fn.spelling) IsPiece l.fn.words l.words l.pieces

abbrev pub decreases-loop-word : goal.decreases-loop-word
decreases-loop-word l = length l.words
