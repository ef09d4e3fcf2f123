use Rattle.std.proofs.Common.{ap, sym, ◌∙◌, ◌++◌}
use Rattle.proof_lines.proofs.Pieces.{goes_on, piece_ended}
use Rattle.proof_lines.proofs.runs.advance.Goals as goal

pub returns-then-joins-clause-to_come : goal.returns-then-joins-clause-to_come
returns-then-joins-clause-to_come c = λ rest. ap (λ ps. c.args.pieces.now ++ ps) (sym (goes_on c.args.piece.0 c.args.piece.1 c.args.id rest (sym c.joins.ensures ∙ c.if-joins.true)))

pub returns-clause-to_come : goal.returns-clause-to_come
returns-clause-to_come c = λ rest. piece_ended c.args.piece.0 c.args.piece.1 c.args.id rest c.args.pieces.now c.push_piece.new.pieces c.in_ok-push_piece.ensures (sym c.joins.ensures ∙ c.if-joins.false)
