use Rattle.proof_lines.specs.Ids.{piece_word}
use Rattle.proof_lines.proofs.Appends.{each_put}
use Rattle.proof_lines.proofs.append.append_pieces.Goals as goal

pub returns : goal.returns
returns c = each_put (piece_word c.args.spelling) c.args.pieces.now c.loop-piece.piece-index _ _ c.loop-piece-test.false c.loop-piece.invariant
