use Rattle.proof_lines.proofs.RunWords.{no_piece, run_value}
use Rattle.proof_lines.proofs.deleted.piece_of.Goals as goal

pub returns-then-end-word : goal.returns-then-end-word
returns-then-end-word c = run_value c.args.spelling c.requires c.args.word.now c.first_dot-end.result c.run_of.result c.first_dot-end.ensures.value c.if-end-word.true c.run_of.ensures

pub returns-in_err-id : goal.returns-in_err-id
returns-in_err-id c = rw c.from_residual.ensures (no_piece c.args.spelling c.requires c.args.word.now c.first_dot-end.result c.first_dot-end.ensures.value c.if-end-word.false c.in_err-id.ensures)
