use Rattle.proof_lines.specs.Ids.{piece_word}
use Rattle.proof_lines.specs.Pieces.{IsPiece}
use Rattle.proof_lines.proofs.Pieces.{piece_code}
use Rattle.proof_lines.proofs.WordParts.{one_word_more, part_wrong}
use Rattle.proof_lines.proofs.deleted.read_pieces.Goals as goal

pub loop-word-preserved : goal.loop-word-preserved
loop-word-preserved c = one_word_more (piece_word c.args.spelling) IsPiece c.args.words.now c.loop-word.words c.next_in_part.new.self c.loop-word.pieces c.push.new.self c.in-Some-piece_of.piece c.in-Some.word.now c.loop-word.invariant c.in-Some.ensures.0 c.in-Some-piece_of.ensures c.in_ok-push-in-Some-piece_of.ensures.ok

pub returns-in-None : goal.returns-in-None
returns-in-None c = part_wrong (piece_word c.args.spelling) IsPiece (piece_code c.args.spelling c.requires) c.args.words.now c.loop-word.words c.next_in_part.new.self c.next_in_part.new.self c.loop-word.pieces c.in-Some.word.now c.loop-word.invariant c.in-Some.ensures.0 c.in-Some.ensures.1 c.in-None.ensures
